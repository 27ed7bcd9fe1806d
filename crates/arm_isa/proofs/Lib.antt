pub mod ArmLemmas
