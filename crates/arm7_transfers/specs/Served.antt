-- What accesses leave of a bus, and what its devices answer to them. This project's.
use Rattle.std.specs.Prelude.{ℕ, if◌then◌else◌, List, [], ◌∷◌, ◌++◌, option_map, unwrap_or}
use Rattle.std.specs.Option.{option_to_list}
use Rattle.sdt_word.specs.declared.codes.Width.{Width}
use Rattle.sdt_word.specs.Codes.{bytes_in}
use Rattle.arm7_model.specs.Accesses.{Access, Fetch, Load, Store}
use Rattle.arm7_bus.specs.Buses.{after_read, after_write, read_answer}
use Rattle.arm7_bus.specs.Seats.{device_at, seat_answer}
use Rattle.arm7_bus.specs.States.{State, bank_has}

-- what a read finds, 0 where the access is absent
abbrev pub value_at : State → ℕ → Width → ℕ
value_at s a width = unwrap_or (read_answer s a width) 0

-- what a device answers to a read: nothing where memory has the access
abbrev pub given : State → ℕ → Width → List ℕ
given s a width =
    if bank_has s.contents.banks a (bytes_in width) then []
    else option_to_list (option_map (seat_answer a width) (device_at s.devices a (bytes_in width)))

-- a bus after accesses, in order
abbrev pub served : State → List Access → State
served s [] = s
served s (Fetch a width ∷ rest) = served (after_read s a width) rest
served s (Load a width ∷ rest) = served (after_read s a width) rest
served s (Store a width v ∷ rest) = served (after_write s a width v) rest

-- what the devices answer to them, each as it then is
abbrev pub answers_to : State → List Access → List ℕ
answers_to s [] = []
answers_to s (Fetch a width ∷ rest) = given s a width ++ answers_to (after_read s a width) rest
answers_to s (Load a width ∷ rest) = given s a width ++ answers_to (after_read s a width) rest
answers_to s (Store a width v ∷ rest) = answers_to (after_write s a width v) rest
