mod ContentLemmas
mod FindingLemmas
mod IndexLemmas
mod KeepingLemmas
mod NotingLemmas
mod OrderingLemmas
mod Rows
