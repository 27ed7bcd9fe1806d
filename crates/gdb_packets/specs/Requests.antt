-- The request that a packet's content spells. gdb's manual, "Remote Serial Protocol", Packets, General Query Packets and
-- File-I/O Remote Protocol Extension. Thread ids, signals and kinds of breakpoints are read over.
use Rattle.std.specs.Prelude.{◌≡◌, ℕ, ◌+◌, ◌^◌, ◌==◌, ◌||◌, nat_le, nat_eq, Bool, true, false, if◌then◌else◌, bytes_eq, codes}
use Rattle.std.specs.Prelude.{List, [], ◌∷◌, length, drop, Option, Some, None}
use Rattle.std.specs.List.{starts_with, ends_with}
use Rattle.std.proofs.Common.{leb-true, refl}
use Rattle.sdt_word.specs.declared.ranges.Range32.{Range32}
use Rattle.gdb_packets.specs.declared.request.Query.{Query}
use Rattle.gdb_packets.specs.declared.request.Query.TheVariants.{Supported, Actions, Thread, CurrentThread, FirstThreads, MoreThreads, Attached, Offsets}
use Rattle.gdb_packets.specs.declared.request.Request.{Request}
use Rattle.gdb_packets.specs.declared.request.Request.TheVariants.{Halted, Registers, SetRegisters, Register, SetRegister, Memory, Store, Continue, Step, Answer, SetPoint, DropPoint, SetWatch, DropWatch, Target, Command, WithoutAcks, Known, Kill, Leave, Malformed, Unknown}
use Rattle.gdb_packets.specs.Fields.{bytes_in, cut, number, pair, unescaped, word}

-- what stands behind a beginning
abbrev pub behind : List ℕ → List ℕ → Option (List ℕ)
behind front text = if starts_with nat_eq text front then Some (drop (length front) text) else None

-- ---- requests that are one word

abbrev pub query_in : List ℕ → Option Query
query_in text =
    if bytes_eq text (codes "vCont?") then Some Actions else (
    if bytes_eq text (codes "qC") then Some CurrentThread else (
    if bytes_eq text (codes "qfThreadInfo") then Some FirstThreads else (
    if bytes_eq text (codes "qsThreadInfo") then Some MoreThreads else (
    if bytes_eq text (codes "qAttached") then Some Attached else (
    if bytes_eq text (codes "qOffsets") then Some Offsets else None)))))

abbrev pub known : Option Query → Option Request
known None = None
known (Some q) = Some (Known q)

abbrev pub bare : List ℕ → Option Request
bare text =
    if bytes_eq text (codes "?") then Some Halted else (
    if bytes_eq text (codes "g") then Some Registers else (
    if bytes_eq text (codes "c") then Some Continue else (
    if bytes_eq text (codes "s") then Some Step else (
    if bytes_eq text (codes "k") then Some Kill else (
    if bytes_eq text (codes "D") then Some Leave else (
    if bytes_eq text (codes "QStartNoAckMode") then Some WithoutAcks else known (query_in text)))))))

-- ---- fields

abbrev pub of_one : (ℕ → Request) → Option ℕ → Request
of_one make None = Malformed
of_one make (Some k) = make k

abbrev pub of_two : (ℕ → ℕ → Request) → Option (ℕ × ℕ) → Request
of_two make None = Malformed
of_two make (Some p) = make p.0 p.1

abbrev pub of_data : (List ℕ → Request) → Option (List ℕ) → Request
of_data make None = Malformed
of_data make (Some bytes) = make bytes

-- a range that isn't empty and ends at 2^32 or below
abbrev pub range_by : (base size : ℕ) (ends : Bool) → nat_le (base + size) (2 ^ 32) ≡ ends → Option Range32
range_by base size true h = Some (record { base = base; size = size; in_space = leb-true (base + size) (2 ^ 32) h })
range_by base size false h = None

abbrev pub ending : ℕ → ℕ → Option Range32
ending a n = range_by a n (nat_le (a + n) (2 ^ 32)) refl

abbrev pub range : ℕ → ℕ → Option Range32
range a n = if n == 0 then None else ending a n

abbrev pub of_range : (Range32 → Request) → Option Range32 → Request
of_range make None = Malformed
of_range make (Some r) = make r

abbrev pub register : List ℕ → Request
register text = of_one Register (number text)

abbrev pub memory : List ℕ → Request
memory text = of_two Memory (pair 44 text)

abbrev pub target : List ℕ → Request
target text = of_two Target (pair 44 text)

-- K=V
abbrev pub written : Option ℕ → Option ℕ → Option (ℕ × ℕ)
written None v = None
written (Some k) None = None
written (Some k) (Some v) = Some (k, v)

abbrev pub register_write_of : Option (List ℕ × List ℕ) → Option (ℕ × ℕ)
register_write_of None = None
register_write_of (Some p) = written (number p.0) (word p.1)

abbrev pub register_write : List ℕ → Option (ℕ × ℕ)
register_write text = register_write_of (cut 61 text)

abbrev pub set_register : List ℕ → Request
set_register text = of_two SetRegister (register_write text)

-- A,N:..
abbrev pub with_rest : Option (ℕ × ℕ) → List ℕ → Option (ℕ × ℕ × List ℕ)
with_rest None rest = None
with_rest (Some p) rest = Some (p.0, p.1, rest)

abbrev pub place_of : Option (List ℕ × List ℕ) → Option (ℕ × ℕ × List ℕ)
place_of None = None
place_of (Some p) = with_rest (pair 44 p.0) p.1

abbrev pub place : List ℕ → Option (ℕ × ℕ × List ℕ)
place text = place_of (cut 58 text)

-- as many bytes as was said
abbrev pub store : ℕ → ℕ → Option (List ℕ) → Request
store a n None = Malformed
store a n (Some bytes) = if length bytes == n then Store a bytes else Malformed

abbrev pub hexadecimal_by : Option (ℕ × ℕ × List ℕ) → Request
hexadecimal_by None = Malformed
hexadecimal_by (Some p) = store p.0 p.1 (bytes_in p.2)

abbrev pub hexadecimal_store : List ℕ → Request
hexadecimal_store text = hexadecimal_by (place text)

abbrev pub binary_by : Option (ℕ × ℕ × List ℕ) → Request
binary_by None = Malformed
binary_by (Some p) = store p.0 p.1 (Some (unescaped false p.2))

abbrev pub binary_store : List ℕ → Request
binary_store text = binary_by (place text)

abbrev pub set_registers : List ℕ → Request
set_registers text = of_data SetRegisters (bytes_in text)

abbrev pub command : List ℕ → Request
command text = of_data Command (bytes_in text)

-- Z and z
abbrev pub point : Bool → List ℕ → ℕ → ℕ → Request
point set kind a n =
    if bytes_eq kind (codes "0") || bytes_eq kind (codes "1") then (if set then SetPoint a else DropPoint a) else (
    if bytes_eq kind (codes "2") then (if set then of_range SetWatch (range a n) else of_range DropWatch (range a n)) else Unknown)

abbrev pub points_by : Bool → List ℕ → Option (ℕ × ℕ) → Request
points_by set kind None = Malformed
points_by set kind (Some p) = point set kind p.0 p.1

abbrev pub points_of : Bool → Option (List ℕ × List ℕ) → Request
points_of set None = Malformed
points_of set (Some p) = points_by set p.0 (pair 44 p.1)

abbrev pub points : Bool → List ℕ → Request
points set text = points_of set (cut 44 text)

-- the first action of vCont is that of the one thread
abbrev pub action : List ℕ → Request
action [] = Malformed
action (b ∷ rest) =
    if b == 99 || b == 67 then Continue else (if b == 115 || b == 83 then Step else Malformed)

abbrev pub answer : List ℕ → Request
answer text = Answer (ends_with nat_eq text (codes ",C"))

-- ---- requests that a name or a letter begins

abbrev pub named_by : Option (List ℕ) → (List ℕ → Request) → Option Request → Option Request
named_by None make other = other
named_by (Some rest) make other = Some (make rest)

abbrev pub named : List ℕ → Option Request
named text =
    named_by (behind (codes "vCont;") text) action (
    named_by (behind (codes "qXfer:features:read:target.xml:") text) target (
    named_by (behind (codes "qRcmd,") text) command (
    named_by (behind (codes "qSupported") text) (λ rest. Known Supported) (
    named_by (behind (codes "vKill;") text) (λ rest. Leave) (
    named_by (behind (codes "D;") text) (λ rest. Leave) None)))))

abbrev pub short : ℕ → List ℕ → Request
short letter text =
    if letter == 112 then register text else (
    if letter == 80 then set_register text else (
    if letter == 109 then memory text else (
    if letter == 90 then points true text else (
    if letter == 122 then points false text else (
    if letter == 70 then answer text else (
    if letter == 72 || letter == 84 then Known Thread else Unknown))))))

abbrev pub lettered : ℕ → List ℕ → Request
lettered letter text =
    if letter == 77 then hexadecimal_store text else (
    if letter == 88 then binary_store text else (
    if letter == 71 then set_registers text else short letter text))

abbrev pub by_letter : List ℕ → Request
by_letter [] = Unknown
by_letter (letter ∷ rest) = lettered letter rest

abbrev pub or_letter : Option Request → List ℕ → Request
or_letter None text = by_letter text
or_letter (Some request) text = request

abbrev pub or_named : Option Request → List ℕ → Request
or_named None text = or_letter (named text) text
or_named (Some request) text = request

abbrev pub request_of : List ℕ → Request
request_of text = or_named (bare text) text
