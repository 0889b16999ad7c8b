-- The reader stands k fixes past where it began, over the lent bytes, and k lines of fixes stand after the opening.
use Rattle.std.proofs.Common.{◌≡◌, ◌≤◌}
use Rattle.text.specs.Laws.Text.{lines_in}
use Rattle.text.proofs.Laws.Text.{LinesPut}
use Rattle.text.proofs.Listing.put_record.Given as goal

abbrev pub invariant-loop-fix : goal.invariant-loop-fix
invariant-loop-fix l = record {
  bytes_are : l.fix-iterator.bytes.now ≡ l.b;
  within : l.fix-iterator.at ≤ lines_in l.b;
  put : LinesPut l.b l.initial.self.out.now l.initial.self.end l.fix-iterator.at l.self.end l.self.out.now;
  same_output : l.self.out.ghost_name ≡ l.initial.self.out.ghost_name;
}
