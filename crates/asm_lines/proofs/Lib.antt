pub mod Best
pub mod FirstLemmas
pub mod KindLemmas
pub mod LineLemmas
pub mod ScanLemmas
pub mod StringLemmas
pub mod TableLemmas
