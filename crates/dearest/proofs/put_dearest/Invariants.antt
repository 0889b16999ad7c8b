-- The fixes so far stand, and the next goes where they end.
use Rattle.std.proofs.Common.{◌≡◌}
use Rattle.format.specs.Kinds.{trail}
use Rattle.format.specs.Format.{record_length}
use Rattle.format.proofs.Laws.Layout.{FixesPut}
use Rattle.dearest.specs.Dearest.{dearest_fix}
use Rattle.dearest.proofs.put_dearest.Given as goal

abbrev pub invariant-loop-i : goal.invariant-loop-i
invariant-loop-i l = record {
  ends : l.at ≡ record_length trail l.i;
  put : FixesPut trail (dearest_fix l.n) l.n l.initial.out l.i l.out;
}
