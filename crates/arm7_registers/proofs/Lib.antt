pub mod ShifterLemmas
