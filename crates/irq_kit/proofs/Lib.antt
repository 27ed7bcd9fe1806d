pub mod KitWords
