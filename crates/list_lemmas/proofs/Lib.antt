pub mod StableSort
