-- Bytes and words as hexadecimal digits. gdb's manual, "Remote Serial Protocol", Packets: `g`, `p` and `m` show bytes in the
-- order in which they stand in memory, so a word its lowest byte first; numbers have their highest digit first.
use Rattle.std.specs.Prelude.{ℕ, ◌/◌, ◌%◌, ◌^◌, false, List, [], ◌∷◌, ◌++◌, flat_map, codes}
use Rattle.std.specs.Fmt.{digit_glyph}
use Rattle.gdb_packets.specs.declared.stops.Stopped.{Stopped}
use Rattle.gdb_packets.specs.declared.stops.Stopped.TheVariants.{Stepped, Break, Watch, Interrupt, Exit, Unpredictable, BadString, NoFrame}

abbrev pub byte_shown : ℕ → List ℕ
byte_shown b = digit_glyph false (b / 16) ∷ digit_glyph false (b % 16) ∷ []

abbrev pub bytes_shown : List ℕ → List ℕ
bytes_shown bytes = flat_map byte_shown bytes

abbrev pub word_bytes : ℕ → List ℕ
word_bytes w = w % 2 ^ 8 ∷ w / 2 ^ 8 % 2 ^ 8 ∷ w / 2 ^ 16 % 2 ^ 8 ∷ w / 2 ^ 24 % 2 ^ 8 ∷ []

abbrev pub words_shown : List ℕ → List ℕ
words_shown words = flat_map (λ w. bytes_shown (word_bytes w)) words

-- eight digits
abbrev pub number_bytes : ℕ → List ℕ
number_bytes n = n / 2 ^ 24 % 2 ^ 8 ∷ n / 2 ^ 16 % 2 ^ 8 ∷ n / 2 ^ 8 % 2 ^ 8 ∷ n % 2 ^ 8 ∷ []

abbrev pub number_shown : ℕ → List ℕ
number_shown n = bytes_shown (number_bytes n)

-- why the program stopped, by the signals of gdb: 2 SIGINT, 4 SIGILL, 5 SIGTRAP, 0xA SIGBUS, 0xB SIGSEGV
abbrev pub stop_reply : Stopped → List ℕ
stop_reply Stepped = codes "T05"
stop_reply Break = codes "T05swbreak:;"
stop_reply (Watch a) = codes "T05watch:" ++ (number_shown a ++ codes ";")
stop_reply Interrupt = codes "T02"
stop_reply Exit = codes "W00"
stop_reply Unpredictable = codes "T04"
stop_reply BadString = codes "T0a"
stop_reply NoFrame = codes "T0b"
