-- What packets say: for each request the forms of the packets that ask it, piece by piece. gdb's manual, "Remote Serial
-- Protocol", Packets, General Query Packets and File-I/O Remote Protocol Extension.
use Rattle.std.specs.Prelude.{◌≡◌, ◌≢◌, ℕ, ◌<◌, true, false, codes, List, ◌++◌, length, Some}
use Rattle.sdt_word.specs.declared.ranges.Range32.{Range32}
use Rattle.gdb_packets.specs.declared.request.Query.TheVariants.{Supported, Actions, Thread, CurrentThread, FirstThreads, MoreThreads, Attached, Offsets}
use Rattle.gdb_packets.specs.declared.request.Request.{Request}
use Rattle.gdb_packets.specs.declared.request.Request.TheVariants.{Halted, Registers, SetRegisters, Register, SetRegister, Memory, Store, Continue, Step, Answer, SetPoint, DropPoint, SetWatch, DropWatch, Target, Command, WithoutAcks, Known, Kill, Leave, Malformed, Unknown}
use Rattle.gdb_packets.specs.Fields.{bytes_in, number, unescaped, word}
use Rattle.gdb_packets.specs.Requests.{request_of}

-- two numbers with a comma between them
pub record IsPair (text : List ℕ) (a n : ℕ) : Type 0 where
  pub s : List ℕ
  pub t : List ℕ
  pub whole : text ≡ s ++ (codes "," ++ t)
  pub first : number s ≡ Some a
  pub second : number t ≡ Some n

pub data Says : List ℕ → Request → Type 0 where
  halted : Says (codes "?") Halted
  -- ---- registers and memory
  registers : Says (codes "g") Registers
  set_registers : {hex bytes : List ℕ} → bytes_in hex ≡ Some bytes → Says (codes "G" ++ hex) (SetRegisters bytes)
  register : {t : List ℕ} {k : ℕ} → number t ≡ Some k → Says (codes "p" ++ t) (Register k)
  set_register : (t v : List ℕ) {k w : ℕ} → number t ≡ Some k → word v ≡ Some w
      → Says (codes "P" ++ (t ++ (codes "=" ++ v))) (SetRegister k w)
  memory : {t : List ℕ} {a n : ℕ} → IsPair t a n → Says (codes "m" ++ t) (Memory a n)
  store : (t hex : List ℕ) {bytes : List ℕ} {a : ℕ} → IsPair t a (length bytes) → bytes_in hex ≡ Some bytes
      → Says (codes "M" ++ (t ++ (codes ":" ++ hex))) (Store a bytes)
  store_binary : (t binary : List ℕ) {bytes : List ℕ} {a : ℕ} → IsPair t a (length bytes) → unescaped false binary ≡ bytes
      → Says (codes "X" ++ (t ++ (codes ":" ++ binary))) (Store a bytes)
  -- ---- steps, with a signal or without; of `vCont` the first action
  continue_alone : Says (codes "c") Continue
  continue_first : {rest : List ℕ} → Says (codes "vCont;c" ++ rest) Continue
  continue_signal : {rest : List ℕ} → Says (codes "vCont;C" ++ rest) Continue
  step_alone : Says (codes "s") Step
  step_first : {rest : List ℕ} → Says (codes "vCont;s" ++ rest) Step
  step_signal : {rest : List ℕ} → Says (codes "vCont;S" ++ rest) Step
  -- ---- answers to a question of ours
  interrupted : (front : List ℕ) → Says (codes "F" ++ (front ++ codes ",C")) (Answer true)
  answered : {text : List ℕ} → ((front : List ℕ) → text ≢ front ++ codes ",C") → Says (codes "F" ++ text) (Answer false)
  -- ---- breakpoints, of both kinds, with the length of the instruction; watched ranges
  set_point : {t : List ℕ} {a n : ℕ} → IsPair t a n → Says (codes "Z0," ++ t) (SetPoint a)
  set_hard_point : {t : List ℕ} {a n : ℕ} → IsPair t a n → Says (codes "Z1," ++ t) (SetPoint a)
  drop_point : {t : List ℕ} {a n : ℕ} → IsPair t a n → Says (codes "z0," ++ t) (DropPoint a)
  drop_hard_point : {t : List ℕ} {a n : ℕ} → IsPair t a n → Says (codes "z1," ++ t) (DropPoint a)
  set_watch : {t : List ℕ} (r : Range32) → IsPair t r.base r.size → 0 < r.size → Says (codes "Z2," ++ t) (SetWatch r)
  drop_watch : {t : List ℕ} (r : Range32) → IsPair t r.base r.size → 0 < r.size → Says (codes "z2," ++ t) (DropWatch r)
  -- ---- questions
  target : {t : List ℕ} {a n : ℕ} → IsPair t a n → Says (codes "qXfer:features:read:target.xml:" ++ t) (Target a n)
  command : {hex bytes : List ℕ} → bytes_in hex ≡ Some bytes → Says (codes "qRcmd," ++ hex) (Command bytes)
  supported : {rest : List ℕ} → Says (codes "qSupported" ++ rest) (Known Supported)
  actions : Says (codes "vCont?") (Known Actions)
  thread : {rest : List ℕ} → Says (codes "H" ++ rest) (Known Thread)
  thread_lives : {rest : List ℕ} → Says (codes "T" ++ rest) (Known Thread)
  current_thread : Says (codes "qC") (Known CurrentThread)
  first_threads : Says (codes "qfThreadInfo") (Known FirstThreads)
  more_threads : Says (codes "qsThreadInfo") (Known MoreThreads)
  attached : Says (codes "qAttached") (Known Attached)
  offsets : Says (codes "qOffsets") (Known Offsets)
  without_acks : Says (codes "QStartNoAckMode") WithoutAcks
  -- ---- ends
  kill : Says (codes "k") Kill
  kill_process : {rest : List ℕ} → Says (codes "vKill;" ++ rest) Leave
  detach : Says (codes "D") Leave
  detach_process : {rest : List ℕ} → Says (codes "D;" ++ rest) Leave

-- whether packets say it
abbrev pub HasForms : Request → Type 0
HasForms Malformed = ⊥
HasForms Unknown = ⊥
HasForms r = Unit {0}

-- what a packet says is read, and what is read of a packet is what it says, unless it says nothing
abbrev pub ReadsForms : Type 0
ReadsForms = ((text : List ℕ) (r : Request) → Says text r → (request_of text ≡ r) × HasForms r)
    × ((text : List ℕ) → HasForms (request_of text) → Says text (request_of text))
