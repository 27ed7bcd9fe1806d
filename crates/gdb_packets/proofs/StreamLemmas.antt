-- Streams are heard as what they say.
use Rattle.std.proofs.Common.{◌≡◌, ◌≢◌, ℕ, ◌+◌, ◌/◌, ◌%◌, ◌*◌, ◌<◌, ◌≤◌, ◌==◌, ◌||◌, ◌&&◌, nat_lt, not, Bool, true, false, cond, List, [], ◌∷◌, ◌++◌, length, refl, ap, ap₂, sym, ◌∙◌, subst, arith, append_assoc, append-nil, length-append, sum, ne_eqb, eq-eqb, lt-ltb, ltb-false, ltb-true, inl, inr, ⊎_elim, ◌⊎◌, true≢false}
use Rattle.std.specs.List.{list_all}
use Rattle.std.specs.Char.{digit_value}
use Rattle.std.specs.Fmt.{digit_glyph}
use Rattle.std.proofs.lemmas.Bool.{eqb-true}
use Rattle.std.proofs.lemmas.List.Folds.{list_all-append}
use Rattle.std.proofs.lemmas.List.Sums.{sum_by-cons}
use Rattle.gdb_packets.specs.declared.framing.Heard.TheVariants as heard
use Rattle.gdb_packets.specs.declared.framing.Place.{Place}
use Rattle.gdb_packets.specs.declared.framing.Place.TheVariants.{Between, Inside, First}
use Rattle.gdb_packets.specs.Framing.{Hearing, after_at, told_at, between, ended, idle, begun, kept, writes, sum_digits}
use Rattle.gdb_packets.specs.Heard as stream
use Rattle.gdb_packets.specs.Heard.{Event, Packet, Broken, TooLong, Accepted, Again, Interrupt, Stream, is_plain, IsContent, is_right, add, heard_from, HearsStream, HearsFramed}

-- ---- a packet's content

abbrev kept_all : Hearing → List ℕ → Hearing
kept_all h [] = h
kept_all h (b ∷ rest) = kept_all (kept h b) rest

abbrev at : Place → Hearing → Hearing
at p h = record h { place = p }

-- behind one more byte, by whether there is room
abbrev kept_if : Bool → Hearing → ℕ → Hearing
kept_if c h b =
    cond c (record h { content = h.content ++ b ∷ []; sum = (h.sum + b) % 256 }) (record h { sum = (h.sum + b) % 256; long = true })

kept_place : (h : Hearing) (b : ℕ) → (kept h b).place ≡ h.place
kept_place h b = by (nat_lt (length h.content) 65536)
  where
    by : (c : Bool) → (kept_if c h b).place ≡ h.place
    by true = refl
    by false = refl

kept_sum : (h : Hearing) (b : ℕ) → (kept h b).sum ≡ (h.sum + b) % 256
kept_sum h b = by (nat_lt (length h.content) 65536)
  where
    by : (c : Bool) → (kept_if c h b).sum ≡ (h.sum + b) % 256
    by true = refl
    by false = refl

all_place : (h : Hearing) (content : List ℕ) → (kept_all h content).place ≡ h.place
all_place h [] = refl
all_place h (b ∷ rest) = all_place (kept h b) rest ∙ kept_place h b

all_sum : (h : Hearing) (content : List ℕ) → h.sum < 256 → (kept_all h content).sum ≡ (h.sum + sum content) % 256
all_sum h [] lt = omega arith
all_sum h (b ∷ rest) lt =
    let one : (kept h b).sum ≡ (h.sum + b) % 256 = kept_sum h b in
    let more : (kept_all (kept h b) rest).sum ≡ ((kept h b).sum + sum rest) % 256 = all_sum (kept h b) rest (omega arith) in
    let both : sum (b ∷ rest) ≡ b + sum rest = sum_by-cons (λ (x : ℕ). x) b rest in
    omega arith

kept_fits : (h : Hearing) (b : ℕ) → length h.content < 65536 → ((kept h b).content ≡ h.content ++ b ∷ []) × ((kept h b).long ≡ h.long)
kept_fits h b room = by (nat_lt (length h.content) 65536) (lt-ltb (length h.content) 65536 room)
  where
    by : (c : Bool) → c ≡ true
        → ((kept_if c h b).content ≡ h.content ++ b ∷ [])
        × ((kept_if c h b).long ≡ h.long)
    by true e = (refl, refl)
    by false e = absurd (cc)

-- what fits is kept, and nothing is left out
all_fits : (h : Hearing) (content : List ℕ) → length h.content + length content ≤ 65536
    → ((kept_all h content).content ≡ h.content ++ content) × ((kept_all h content).long ≡ h.long)
all_fits h [] fits = (sym (append-nil h.content), refl)
all_fits h (b ∷ rest) fits =
    let one = kept_fits h b (omega arith) in
    let longer : length (kept h b).content ≡ length h.content + 1 = ap (length {A = ℕ}) one.0 ∙ length-append h.content (b ∷ []) in
    let more = all_fits (kept h b) rest (omega arith) in
    (more.0 ∙ ap (λ (x : List ℕ). x ++ rest) one.0 ∙ append_assoc h.content (b ∷ []) rest, more.1 ∙ one.1)

kept_long : (h : Hearing) (b : ℕ) → (h.long ≡ true) ⊎ (65536 ≤ length h.content) → (kept h b).long ≡ true
kept_long h b e = by (nat_lt (length h.content) 65536) refl
  where
    by : (c : Bool) → nat_lt (length h.content) 65536 ≡ c
        → (kept_if c h b).long ≡ true
    by true f = ⊎_elim (λ g. g) (λ g. absurd (let lt = ltb-true (length h.content) 65536 f in omega arith)) e
    by false f = refl

long_stays : (h : Hearing) (content : List ℕ) → h.long ≡ true → (kept_all h content).long ≡ true
long_stays h [] e = e
long_stays h (b ∷ rest) e = long_stays (kept h b) rest (kept_long h b (inl e))

all_long : (h : Hearing) (content : List ℕ) → 65536 < length h.content + length content → length h.content ≤ 65536
    → (kept_all h content).long ≡ true
all_long h [] over fits = absurd (omega arith)
all_long h (b ∷ rest) over fits = by (all_long (kept h b) rest) (nat_lt (length h.content) 65536) refl
  where
    by : (65536 < length (kept h b).content + length rest → length (kept h b).content ≤ 65536 → (kept_all (kept h b) rest).long ≡ true)
        → (c : Bool) → nat_lt (length h.content) 65536 ≡ c → (kept_all (kept h b) rest).long ≡ true
    by more true f =
        let room : length h.content < 65536 = ltb-true (length h.content) 65536 f in
        let longer : length (kept h b).content ≡ length h.content + 1 = ap (length {A = ℕ}) (kept_fits h b room).0
        ∙ length-append h.content (b ∷ []) in
        more (omega arith) (omega arith)
    by more false f = long_stays (kept h b) rest (kept_long h b (inr (ltb-false (length h.content) 65536 f)))

-- ---- byte by byte

plain_parts : (b : ℕ) → is_plain b ≡ true → ((b == 36) ≡ false) × ((b == 35) ≡ false)
plain_parts b e = by (b == 36) (b == 35) e
  where
    by : (c d : Bool) → (not c && not d) ≡ true → (c ≡ false) × (d ≡ false)
    by true d f = absurd (cc)
    by false true f = absurd (cc)
    by false false f = (refl, refl)

inside_step : (checked : Bool) (h : Hearing) (b : ℕ) (rest : List ℕ) → h.place ≡ Inside → is_plain b ≡ true
    → heard_from checked h (b ∷ rest) ≡ heard_from checked (kept h b) rest
inside_step checked h b rest p e =
    let apart = plain_parts b e in
    ap (λ (q : Place). add (told_at q checked h b) h.content (heard_from checked (after_at q h b) rest)) p
    ∙ ap (λ (c : Bool). heard_from checked (cond c begun (cond (b == 35) (record h { place = First }) (kept h b))) rest) apart.0
    ∙ ap (λ (c : Bool). heard_from checked (cond c (record h { place = First }) (kept h b)) rest) apart.1

content_parts : (b : ℕ) (content : List ℕ) → IsContent (b ∷ content) → (is_plain b ≡ true) × IsContent content
content_parts b content e = by (is_plain b) (list_all is_plain content) e
  where
    by : (c d : Bool) → (c && d) ≡ true → (c ≡ true) × (d ≡ true)
    by true d f = (refl, f)
    by false d f = absurd (cc)

inside_all : (checked : Bool) (h : Hearing) (content rest : List ℕ) → h.place ≡ Inside → IsContent content
    → heard_from checked h (content ++ rest) ≡ heard_from checked (kept_all h content) rest
inside_all checked h [] rest p c = refl
inside_all checked h (b ∷ content) rest p c =
    let parts = content_parts b content c in
    inside_step checked h b (content ++ rest) p parts.0 ∙ inside_all checked (kept h b) content rest (kept_place h b ∙ p) parts.1

between_add : (b : ℕ) (c d : List ℕ) (events : List Event) → add (between b) c events ≡ add (between b) d events
between_add b c d events = by (b == 43) (b == 45) (b == 3)
  where
    by : (x y z : Bool)
        → add (cond x heard.Accepted (cond y heard.Again (cond z heard.Interrupt heard.Nothing))) c events
        ≡ add (cond x heard.Accepted (cond y heard.Again (cond z heard.Interrupt heard.Nothing))) d events
    by true y z = refl
    by false true z = refl
    by false false true = refl
    by false false false = refl

between_any : (checked : Bool) (h : Hearing) (rest : List ℕ) → h.place ≡ Between → heard_from checked h rest ≡ heard_from checked idle rest
between_any checked h [] p = refl
between_any checked h (b ∷ rest) p =
    ap (λ (q : Place). add (told_at q checked h b) h.content (heard_from checked (after_at q h b) rest)) p
    ∙ between_add b h.content [] _ ∙ ap (add (between b) []) (by (between_any checked h rest p) (b == 36))
  where
    by : heard_from checked h rest ≡ heard_from checked idle rest
        → (c : Bool) → heard_from checked (cond c begun h) rest ≡ heard_from checked (cond c begun idle) rest
    by more true = refl
    by more false = more

hash_step : (checked : Bool) (h : Hearing) (rest : List ℕ) → h.place ≡ Inside
    → heard_from checked h (35 ∷ rest) ≡ heard_from checked (at First h) rest
hash_step checked h rest p = ap (λ (q : Place). add (told_at q checked h 35) h.content (heard_from checked (after_at q h 35) rest)) p

start_step : (checked : Bool) (h : Hearing) (rest : List ℕ) → h.place ≡ Inside
    → heard_from checked h (36 ∷ rest) ≡ heard_from checked begun rest
start_step checked h rest p = ap (λ (q : Place). add (told_at q checked h 36) h.content (heard_from checked (after_at q h 36) rest)) p

-- behind a content, `#` and two digits
behind_packet : (checked : Bool) (h : Hearing) (high low : ℕ) (rest : List ℕ) → h.place ≡ Inside
    → heard_from checked h (35 ∷ high ∷ low ∷ rest)
    ≡ add (ended (not checked || writes high low h.sum) h.long) h.content (heard_from checked idle rest)
behind_packet checked h high low rest p =
    hash_step checked h (high ∷ low ∷ rest) p
    ∙ ap (add (ended (not checked || writes high low h.sum) h.long) h.content) (between_any checked (at Between h) rest refl)

whole_packet : (checked : Bool) (content rest : List ℕ) (high low : ℕ) → IsContent content
    → heard_from checked idle (36 ∷ (content ++ 35 ∷ high ∷ low ∷ rest))
    ≡ add (ended (is_right checked content high low) (kept_all begun content).long) (kept_all begun content).content
    (heard_from checked idle rest)
whole_packet checked content rest high low c =
    let k : Hearing = kept_all begun content in
    let total : k.sum ≡ sum content % 256 = (let s = all_sum begun content (omega arith) in omega arith) in
    inside_all checked begun content (35 ∷ high ∷ low ∷ rest) refl c
    ∙ behind_packet checked k high low rest (all_place begun content)
    ∙ ap (λ (x : ℕ). add (ended (not checked || writes high low x) k.long) k.content (heard_from checked idle rest)) total

noise_heard : (checked : Bool) (b : ℕ) (rest : List ℕ) → b ≢ 36 → b ≢ 43 → b ≢ 45 → b ≢ 3
    → heard_from checked idle (b ∷ rest) ≡ heard_from checked idle rest
noise_heard checked b rest p q r s =
    by (b == 36) (b == 43) (b == 45) (b == 3) (ne_eqb b 36 p) (ne_eqb b 43 q) (ne_eqb b 45 r) (ne_eqb b 3 s)
  where
    by : (x y z w : Bool) → x ≡ false → y ≡ false → z ≡ false → w ≡ false
        → add (cond y heard.Accepted (cond z heard.Again (cond w heard.Interrupt heard.Nothing))) []
        (heard_from checked (cond x begun idle) rest)
        ≡ heard_from checked idle rest
    by true y z w e f g h = absurd (cc)
    by false true z w e f g h = absurd (cc)
    by false false true w e f g h = absurd (cc)
    by false false false true e f g h = absurd (cc)
    by false false false false e f g h = refl

-- ---- what a stream says is heard

hears : {checked : Bool} {bytes : List ℕ} {events : List Event} → Stream checked bytes events → heard_from checked idle bytes ≡ events
hears stream.ends = refl
hears (stream.accepted s) = ap (λ (e : List Event). Accepted ∷ e) (hears s)
hears (stream.again s) = ap (λ (e : List Event). Again ∷ e) (hears s)
hears (stream.interrupt s) = ap (λ (e : List Event). Interrupt ∷ e) (hears s)
hears {checked} (stream.noise {rest} b p q r t s) = noise_heard checked b rest p q r t ∙ hears s
hears {checked} (stream.packet content rest high low c fits right s) =
    let k : Hearing = kept_all begun content in
    let all = all_fits begun content (omega arith) in
    whole_packet checked content rest high low c
    ∙ ap (λ (x : Bool). add (ended x k.long) k.content (heard_from checked idle rest)) right
    ∙ ap (λ (x : Bool). add (ended true x) k.content (heard_from checked idle rest)) all.1
    ∙ ap₂ (λ (x : List ℕ) (e : List Event). Packet x ∷ e) all.0 (hears s)
hears {checked} (stream.too_long content rest high low c over right s) =
    let k : Hearing = kept_all begun content in
    whole_packet checked content rest high low c
    ∙ ap (λ (x : Bool). add (ended x k.long) k.content (heard_from checked idle rest)) right
    ∙ ap (λ (x : Bool). add (ended true x) k.content (heard_from checked idle rest))
    (all_long begun content (omega arith) (omega arith))
    ∙ ap (λ (e : List Event). TooLong ∷ e) (hears s)
hears {checked} (stream.broken content rest high low c wrong s) =
    let k : Hearing = kept_all begun content in
    whole_packet checked content rest high low c
    ∙ ap (λ (x : Bool). add (ended x k.long) k.content (heard_from checked idle rest)) wrong
    ∙ ap (λ (e : List Event). Broken ∷ e) (hears s)
hears {checked} (stream.cut_off content rest c s) =
    inside_all checked begun content (36 ∷ rest) refl c ∙ start_step checked (kept_all begun content) rest (all_place begun content)
    ∙ hears s
hears {checked} (stream.open_content content c) =
    ap (heard_from checked begun) (sym (append-nil content)) ∙ inside_all checked begun content [] refl c
hears {checked} (stream.open_sum content c) =
    inside_all checked begun content (35 ∷ []) refl c ∙ hash_step checked (kept_all begun content) [] (all_place begun content)
hears {checked} (stream.open_digit content high c) =
    inside_all checked begun content (35 ∷ high ∷ []) refl c
    ∙ hash_step checked (kept_all begun content) (high ∷ []) (all_place begun content)

-- ---- each stream says what is heard of it

abbrev IsSaid : Bool → List ℕ → Type 0
IsSaid checked bytes = Stream checked bytes (heard_from checked idle bytes)

said : {checked : Bool} {bytes : List ℕ} {events : List Event} → Stream checked bytes events → IsSaid checked bytes
said {checked} {bytes} s = subst (λ (e : List Event). Stream checked bytes e) (sym (hears s)) s

-- where the next byte stands, and behind what
data Stage : Type 0 where
  Out : Stage
  In : List ℕ → Stage
  Hash : List ℕ → Stage
  Digit : List ℕ → ℕ → Stage

abbrev Claim : Bool → Stage → List ℕ → Type 0
Claim checked Out bytes = IsSaid checked bytes
Claim checked (In front) bytes = IsContent front → IsSaid checked (36 ∷ (front ++ bytes))
Claim checked (Hash front) bytes = IsContent front → IsSaid checked (36 ∷ (front ++ 35 ∷ bytes))
Claim checked (Digit front high) bytes = IsContent front → IsSaid checked (36 ∷ (front ++ 35 ∷ high ∷ bytes))

out_said : (checked : Bool) (b : ℕ) (rest : List ℕ) → IsSaid checked rest → IsSaid checked (36 ∷ rest) → IsSaid checked (b ∷ rest)
out_said checked b rest s t = by (b == 36) (b == 43) (b == 45) (b == 3) refl refl refl refl
  where
    same : (k : ℕ) → (b == k) ≡ true → IsSaid checked (k ∷ rest) → IsSaid checked (b ∷ rest)
    same k e u = subst (λ (x : ℕ). IsSaid checked (x ∷ rest)) (sym (eqb-true b k e)) u

    other : (k : ℕ) → (b == k) ≡ false → b ≢ k
    other k e = λ g. true≢false (sym (eq-eqb b k g) ∙ e)

    by : (x y z w : Bool) → (b == 36) ≡ x → (b == 43) ≡ y → (b == 45) ≡ z → (b == 3) ≡ w → IsSaid checked (b ∷ rest)
    by true y z w e f g h = same 36 e t
    by false true z w e f g h = same 43 f (said (stream.accepted s))
    by false false true w e f g h = same 45 g (said (stream.again s))
    by false false false true e f g h = same 3 h (said (stream.interrupt s))
    by false false false false e f g h = said (stream.noise b (other 36 e) (other 43 f) (other 45 g) (other 3 h) s)

in_said : (checked : Bool) (b : ℕ) (front rest : List ℕ) → IsContent front
    → IsSaid checked (36 ∷ rest) → IsSaid checked (36 ∷ (front ++ 35 ∷ rest))
    → (IsContent (front ++ b ∷ []) → IsSaid checked (36 ∷ ((front ++ b ∷ []) ++ rest)))
    → IsSaid checked (36 ∷ (front ++ b ∷ rest))
in_said checked b front rest c s t u = by (b == 36) (b == 35) refl refl
  where
    by : (x y : Bool) → (b == 36) ≡ x → (b == 35) ≡ y → IsSaid checked (36 ∷ (front ++ b ∷ rest))
    by true y e f =
        subst (λ (k : ℕ). IsSaid checked (36 ∷ (front ++ k ∷ rest))) (sym (eqb-true b 36 e)) (said (stream.cut_off front rest c s))
    by false true e f = subst (λ (k : ℕ). IsSaid checked (36 ∷ (front ++ k ∷ rest))) (sym (eqb-true b 35 f)) t
    by false false e f =
        let plain : list_all is_plain (b ∷ []) ≡ true = ap₂ (λ (x y : Bool). (not x && not y) && true) e f in
        let whole : IsContent (front ++ b ∷ []) = list_all-append is_plain front (b ∷ []) ∙ ap₂ (λ (x y : Bool). x && y) c plain in
        subst (λ (x : List ℕ). IsSaid checked (36 ∷ x)) (append_assoc front (b ∷ []) rest) (u whole)

packet_said : (checked : Bool) (content rest : List ℕ) (high low : ℕ) → IsContent content → IsSaid checked rest
    → IsSaid checked (36 ∷ (content ++ 35 ∷ high ∷ low ∷ rest))
packet_said checked content rest high low c s = by (is_right checked content high low) (nat_lt 65536 (length content)) refl refl
  where
    by : (x y : Bool) → is_right checked content high low ≡ x → nat_lt 65536 (length content) ≡ y
        → IsSaid checked (36 ∷ (content ++ 35 ∷ high ∷ low ∷ rest))
    by false y e f = said (stream.broken content rest high low c e s)
    by true true e f = said (stream.too_long content rest high low c (ltb-true 65536 (length content) f) e s)
    by true false e f = said (stream.packet content rest high low c (ltb-false 65536 (length content) f) e s)

says : (checked : Bool) (bytes : List ℕ) (s : Stage) → Claim checked s bytes
says checked [] Out = stream.ends
says checked [] (In front) =
    λ c. subst (λ (x : List ℕ). IsSaid checked (36 ∷ x)) (sym (append-nil front)) (said (stream.open_content front c))
says checked [] (Hash front) = λ c. said (stream.open_sum front c)
says checked [] (Digit front high) = λ c. said (stream.open_digit front high c)
says checked (b ∷ rest) Out = out_said checked b rest (says checked rest Out) (says checked rest (In []) refl)
says checked (b ∷ rest) (In front) =
    λ c. in_said checked b front rest c (says checked rest (In []) refl) (says checked rest (Hash front) c)
    (says checked rest (In (front ++ b ∷ [])))
says checked (b ∷ rest) (Hash front) = λ c. says checked rest (Digit front b) c
says checked (b ∷ rest) (Digit front high) = λ c. packet_said checked front rest high b c (says checked rest Out)

pub hears_stream : HearsStream
hears_stream = (λ checked bytes events s. hears s, λ checked bytes. says checked bytes Out)

-- ---- framed contents

glyph_value : (d : ℕ) → d < 16 → digit_value (digit_glyph false d) ≡ d
glyph_value d lt = grind arith

glyphs_write : (high low s : ℕ) → high < 16 → low < 16 → 16 * high + low ≡ s
    → writes (digit_glyph false high) (digit_glyph false low) s ≡ true
glyphs_write high low s h l e =
    ap₂ (λ (x y : ℕ). nat_lt x 16 && nat_lt y 16 && (16 * x + y == s)) (glyph_value high h) (glyph_value low l)
    ∙ ap₂ (λ (x y : Bool). x && y) (ap₂ (λ (x y : Bool). x && y) (lt-ltb high 16 h) (lt-ltb low 16 l)) (eq-eqb (16 * high + low) s e)

sum_writes : (n : ℕ) → writes (digit_glyph false (n % 256 / 16)) (digit_glyph false (n % 16)) (n % 256) ≡ true
sum_writes n = glyphs_write (n % 256 / 16) (n % 16) (n % 256) (omega arith) (omega arith) (omega arith)

pub hears_framed : HearsFramed
hears_framed checked content rest c fits =
    let high : ℕ = digit_glyph false (sum content % 256 / 16) in
    let low : ℕ = digit_glyph false (sum content % 16) in
    let right : is_right checked content high low ≡ true = ap (λ (x : Bool). not checked || x) (sum_writes (sum content))
    ∙ either checked in
    ap (λ (x : List ℕ). heard_from checked idle (36 ∷ x)) (append_assoc content (35 ∷ sum_digits content) rest)
    ∙ hears (stream.packet content rest high low c fits right (says checked rest Out))
  where
    either : (b : Bool) → (not b || true) ≡ true
    either true = refl
    either false = refl
