use Rattle.std.proofs.Common.{refl}
use Rattle.meaning_examples.proofs.Worked.{looked_at, is_safe_at_time, is_unsafe_at_time, seen_bad, seen_int, seen_pre}
use Rattle.meaning_examples.specs.Examples.{int, bad, pre}
use Rattle.meaning_examples.proofs.examples.safety_is_of_what_is_looked_at.Goals as goal

pub returns : goal.returns
returns c = record {
  divisors = (simp looked_at, simp looked_at, simp looked_at);
  indices = (simp looked_at, simp looked_at, simp looked_at, simp looked_at, simp looked_at, simp looked_at);
  branches = (simp looked_at, simp looked_at, simp looked_at, simp looked_at);
  operands = (simp looked_at, simp looked_at, simp looked_at, simp looked_at, simp looked_at, simp looked_at, simp looked_at, simp looked_at);
  first_operands = simp looked_at;
  domains = (simp looked_at, simp looked_at);
  memories = simp looked_at;
  in_memories = (
    is_unsafe_at_time 0 (pre bad (int 1)) (seen_pre bad (int 1) seen_bad (seen_int 1)) refl,
    is_unsafe_at_time 1 (pre bad (int 1)) (seen_pre bad (int 1) seen_bad (seen_int 1)) refl,
    is_unsafe_at_time 0 (pre (int 1) bad) (seen_pre (int 1) bad (seen_int 1) seen_bad) refl,
    is_safe_at_time 1 (pre (int 1) bad) (seen_pre (int 1) bad (seen_int 1) seen_bad) refl,
  );
  values = (simp looked_at, simp looked_at);
}
