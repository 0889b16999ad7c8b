use mathlib.Core.Path.{◌≡◌}
use Rattle.format.specs.Fixes.{nth}
use Rattle.format.specs.Format.{each}
use Rattle.reading.specs.Reading.{filled, times_of, xs_of, ys_of, silences_of}
use Rattle.reading.proofs.all.fill.Given as goal

abbrev pub invariant-loop-k : goal.invariant-loop-k
invariant-loop-k l = record {
  times : l.ts ≡ filled l.initial.ts (times_of (each (nth l.fixes) 0 l.k));
  xs : l.xs ≡ filled l.initial.xs (xs_of (each (nth l.fixes) 0 l.k));
  ys : l.ys ≡ filled l.initial.ys (ys_of (each (nth l.fixes) 0 l.k));
  silences : l.silences ≡ filled l.initial.silences (silences_of (each (nth l.fixes) 0 l.k));
}
