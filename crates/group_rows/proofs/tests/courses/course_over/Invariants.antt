use Rattle.std.proofs.Common.{◌≡◌, ◌≤◌, false}
use Rattle.group_rows.proofs.tests.courses.course_over.Given as goal

abbrev pub invariant-loop-list : goal.invariant-loop-list
invariant-loop-list l = record {
  present : l.groups.present ≡ l.present.items;
  live : l.groups.spent ≡ false;
  applied : l.groups.applied ≤ l.list;
}
