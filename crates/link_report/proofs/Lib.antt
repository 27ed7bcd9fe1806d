mod EqualLemmas
mod KeyLemmas
mod MemberLemmas
mod OrderingLemmas
mod Rows
mod SelectionLemmas
mod TextLemmas
mod ValueLemmas
