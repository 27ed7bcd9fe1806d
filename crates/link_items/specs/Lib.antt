pub mod LinkedItems
