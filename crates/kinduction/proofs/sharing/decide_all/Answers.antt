use Rattle.std.proofs.Common.{◌≡◌, ℕ, ◌<◌, List, length, rules, arith, get_or}
use Rattle.std.specs.Prelude.{IfOk, OnOk, Result, Ok, Err, IsOk, All}
use Rattle.std.specs.declared.alloc.AllocError.{AllocError}
use Rattle.std.specs.List.{flat_map}
use Rattle.lll_core.specs.declared.lll.Lll.{Lll}
use Rattle.kinduction.specs.declared.found.Found.{Found}
use Rattle.kinduction.specs.Rounds.{DecidesAll}
use Rattle.kinduction.specs.Shares.{IsShare, ok_items}
use Rattle.kinduction.proofs.Answering.{all_decided}
use Rattle.kinduction.proofs.sharing.decide_all.Goals as goal

either : (r : Result (List Found) AllocError) (shares : List (Result (List Found) AllocError)) (l : Lll) (depth budget : ℕ)
    → (All IsOk shares → (answers : List Found) → answers ≡ flat_map ok_items shares → DecidesAll l depth budget answers)
    → IfOk r (λ answers. answers ≡ flat_map ok_items shares) → OnOk r (All IsOk shares) → IfOk r (DecidesAll l depth budget)
either (Ok answers) shares l depth budget all is complete = all complete answers is
either (Err e) shares l depth budget all is complete = tt

pub returns : goal.returns
returns g c =
    let shares = c.in_ok-shares.shares.items in
    let right : (i : ℕ) (d : Result (List Found) AllocError) → i < length shares → IfOk (get_or shares i d) (IsShare c.args.l.now c.args.depth c.args.budget c.args.workers i) =
    λ i d lt. let k = (c.in_ok-shares.ensures.each i d (omega (arith, lt, c.in_ok-shares.ensures.len))).1 in search rules in
    either c.joined.result shares c.args.l.now c.args.depth c.args.budget
    (λ complete answers is. all_decided c.args.l.now c.args.depth c.args.budget c.args.workers shares right (omega (arith, c.in_ok-shares.ensures.len)) c.requires.some_workers complete answers is)
    c.joined.ensures.answers c.joined.ensures.complete
