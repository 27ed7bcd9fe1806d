pub mod MemberLoop
pub mod SpellingLoops
pub mod ArchiveLaw
pub mod SpelledArchive
pub mod ValidArchive
