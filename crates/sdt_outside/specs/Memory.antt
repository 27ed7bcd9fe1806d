-- When the calls of a store in memory fail. This project's.
use Rattle.std.specs.Prelude.{◌≡◌, ℕ, ◌+◌, ◌-◌, ◌^◌, ◌<◌, List, Contains, Result, Ok, Err}
use Rattle.sdt_outside.specs.declared.store.StoreError.{StoreError}
use Rattle.sdt_outside.specs.declared.store.StoreError.TheVariants.{Missing, Failed, NoMemory}

-- the call after this many is one of those that fail, and both counts are below their last value
abbrev pub FailsAt : List ℕ → ℕ → ℕ → Type 0
FailsAt failing calls faults = (calls < 2 ^ 64 - 1) × (faults < 2 ^ 64 - 1) × Contains failing (calls + 1)

-- a call counts as a fault exactly where it failed
abbrev pub CountsFaults : {X : Type 0} → Result X StoreError → ℕ → ℕ → Type 0
CountsFaults (Ok x) before now = now ≡ before
CountsFaults (Err Missing) before now = now ≡ before
CountsFaults (Err Failed) before now = now ≡ before + 1
CountsFaults (Err NoMemory) before now = now ≡ before
