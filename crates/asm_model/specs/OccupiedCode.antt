-- What a directive occupies, as code says it. This project's.
use Rattle.asm_model.specs.declared.occupied.Occupied.{Occupied as Code}
use Rattle.asm_model.specs.declared.occupied.Occupied.TheVariants as code
use Rattle.asm_model.specs.Occupied.{Occupied, Unplaced, Opening, Marking, Entering, Items, Zeroes, UpTo, Literals}

abbrev pub occupied_of_code : Code → Occupied
occupied_of_code code.Unplaced = Unplaced
occupied_of_code (code.Opening attributes) = Opening attributes.now
occupied_of_code code.Marking = Marking
occupied_of_code code.Entering = Entering
occupied_of_code (code.Items item values) = Items item values.now
occupied_of_code (code.Zeroes size) = Zeroes size.now
occupied_of_code (code.UpTo boundary) = UpTo boundary.now
occupied_of_code code.Literals = Literals
