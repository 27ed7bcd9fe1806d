use Rattle.std.proofs.Common.{◌≡◌, ◌*◌, ◌∙◌, sym, ap, arith, [], ◌++◌, ◌∷◌, Ok, Err, Bool, List, ℕ}
use Rattle.std.specs.Prelude.{is_some}
use Rattle.std.proofs.lemmas.Result.{err_from_is_err_and}
use Rattle.std.proofs.lemmas.List.{length_push, take_rest}
use Rattle.chunk_file.specs.Reading.{Gives}
use Rattle.chunk_file.proofs.Loops.{goes_on, ends, is_done}
use Rattle.aof_object.specs.declared.records.Symbol.{Symbol}
use Rattle.aof_object.specs.Names.{among}
use Rattle.aof_object.specs.Index.{Numbers, number_in}
use Rattle.aof_object.specs.Objects.{next_symbol, exported}
use Rattle.aof_object.proofs.NamesLemmas.{exported_more}
use Rattle.aof_object.proofs.symbols.read_rows.Goals as goal

same_test : (m : Numbers) (ns : List (List ℕ)) → ((q : List ℕ) → is_some (number_in m q) ≡ among q ns) → ◌≡◌ {A = List ℕ → Bool} (λ q. is_some (number_in m q)) (λ q. among q ns)
same_test m ns known = λ i q. known q i

pub returns-in_err-symbol : goal.returns-in_err-symbol
returns-in_err-symbol c =
    let p = err_from_is_err_and c.from_residual-in_err-symbol.result c.from_residual-in_err-symbol.ensures.1 in
    let step = next_symbol c.args.strings.now c.args.heads.now c.args.start c.args.content.now in
    let taken = same_test c.loop-i.taken (exported c.loop-i.symbols.items) c.loop-i.invariant.known in
    let h : Gives (Err c.in_err-symbol.field-0.0) (step c.loop-i.symbols.items) = rw (c.loop-i.invariant.many, ← take_rest c.args.content.now (16 * c.loop-i.i), ← taken) c.in_err-symbol.ensures.exact in
    rw (p.1, p.2) (ends c.in_err-symbol.field-0.0 step c.loop-i.symbols.items c.args.count c.loop-i.i _ c.loop-i-test.true h c.loop-i.invariant.so_far)

pub loop-i-preserved : goal.loop-i-preserved
loop-i-preserved c =
    let step = next_symbol c.args.strings.now c.args.heads.now c.args.start c.args.content.now in
    let symbol = c.in_ok-symbol.symbol in
    let taken = same_test c.loop-i.taken (exported c.loop-i.symbols.items) c.loop-i.invariant.known in
    let h : step c.loop-i.symbols.items ≡ Ok symbol = rw (c.loop-i.invariant.many, ← take_rest c.args.content.now (16 * c.loop-i.i), ← taken) c.in_ok-symbol.ensures.exact in
    let pushed : c.push.new.self.items ≡ c.loop-i.symbols.items ++ symbol ∷ [] = c.in_ok-push.ensures.items in
    let long = length_push c.loop-i.symbols.items symbol in
    record {
      so_far = rw pushed (goes_on step c.loop-i.symbols.items c.args.count c.loop-i.i symbol _ c.loop-i-test.true h c.loop-i.invariant.so_far);
      many = rw pushed (omega (arith, long, c.loop-i.invariant.many));
      known = λ q. exported_more c.loop-i.taken c.read_symbol.new.taken c.loop-i.symbols.items symbol c.loop-i.invariant.known c.in_ok-symbol.ensures.noted q
          ∙ sym (ap (λ (ss : List Symbol). among q (exported ss)) pushed);
    }

pub returns : goal.returns
returns c = rw c.from_vec.ensures (is_done (next_symbol c.args.strings.now c.args.heads.now c.args.start c.args.content.now) c.loop-i.symbols.items c.args.count c.loop-i.i _ c.loop-i-test.false c.loop-i.invariant.so_far)
