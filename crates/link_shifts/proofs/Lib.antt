mod JudgeLemmas
mod FieldLemmas
mod ChangeLemmas
mod ShiftLemmas
