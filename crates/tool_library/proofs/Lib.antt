pub mod MemberLemmas
pub mod SizeLemmas
pub mod AnswerLemmas
