mod FieldLemmas
mod LawLemmas
mod NeededLemmas
mod PlanLemmas
mod Rows
