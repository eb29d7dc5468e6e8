-- One statement more.
use Rattle.std.proofs.Common.{◌≡◌, ◌<◌, ◌+◌, List, ℕ, [], length, take, get_or, Option, Ok, Err, refl, sym, ap, subst, arith}
use Rattle.std.proofs.lemmas.List.{take_all}
use Rattle.gvdl_tree.specs.declared.script.Statement.{Statement}
use Rattle.gvdl_check.specs.SizeLaws.{few_statements}
use Rattle.surge_cli.specs.declared.status.FileRole.TheVariants as role
use Rattle.surge_cli.specs.FilesState.{AsksEach}
use Rattle.surge_cli.specs.Causes.{AsksOnly, UpTo}
use Rattle.surge_cli.specs.Expected.{Held, Grouped, insert_at, inserts_from, inserts_of, with_files}
use Rattle.surge_cli.specs.Reaches.{GivesFiles}
use Rattle.surge_cli.specs.Stages.{IsBehind, IsInsert, IsSaidOf, RisesBefore, names_of, seen}
use Rattle.surge_cli.proofs.GoingOn.{same_files, both_on}
use Rattle.surge_cli.proofs.Inserting.{none_put, more_said, stop_said, more_once, stop_once, stands_behind, more_asked, before_this, in_place}
use Rattle.surge_cli.proofs.Reaching.{asks_none, rises_so}
use Rattle.surge_cli.proofs.ReadingOnce.{none_each}
use Rattle.surge_cli.proofs.stages.add_files.Goals as goal

pub overflow_add-number : goal.overflow_add-number
overflow_add-number g c =
    let few = few_statements c.args.script.now c.requires.written in
    let size = ap (λ (l : List Statement). length l) c.as_slice-statement-items.ensures in
    omega (arith, few, size, c.loop-statement.invariant.number, c.loop-statement-test.true)

pub loop-statement-init : goal.loop-statement-init
loop-statement-init g c =
    let old = g.F.NamedFiles.state c.args.files.now in
    record {
      number = refl;
      groups = c.requires.groups;
      gives = none_put old.held (seen c.args.loaded);
      files = same_files old;
      asked = asks_none (UpTo (IsBehind old.held (seen c.args.loaded) (inserts_of c.args.script.now)) (role.Insert 1)) old.asked;
      once = none_each [] old;
    }

pub loop-statement-preserved : goal.loop-statement-preserved
loop-statement-preserved g c =
    let old = g.F.NamedFiles.state c.args.files.now in
    let between = g.F.NamedFiles.state c.loop-statement.files in
    let new = g.F.NamedFiles.state c.add_statement.new.files in
    let w = seen c.args.loaded in
    let v = seen c.loop-statement.loaded in
    let ss = c.args.script.now.statements in
    let i = c.loop-statement.statement-index in
    let s = c.statement-item.result in
    let inv = c.loop-statement.invariant in
    let size = ap (λ (l : List Statement). length l) c.as_slice-statement-items.ensures in
    let lt : i < length ss = omega (arith, size, c.loop-statement-test.true) in
    let is : s ≡ get_or ss i s = cc (c.as_slice-statement-items.ensures, c.statement-item.is) in
    let here : c.loop-statement.number + 1 ≡ i + 2 = omega (arith, inv.number) in
    let said = subst (λ (n : ℕ). IsSaidOf old.held (λ files. with_files files v (insert_at n s)) (Ok (seen c.add_statement.new.loaded))) here
    (subst (λ (h : Option Held). IsSaidOf h (λ files. with_files files v (insert_at (c.loop-statement.number + 1) s)) (Ok (seen c.add_statement.new.loaded))) inv.files.held c.in_default.ensures.said) in
    let asked = subst (λ (n : ℕ). AsksOnly (IsInsert n s) between.asked new.asked) here c.add_statement.ensures.asked in
    let once = subst (λ (n : ℕ). AsksEach (names_of (insert_at n s)) between new) here c.add_statement.ensures.once in
    let P = IsBehind old.held w (inserts_of c.args.script.now) in
    record {
      number = omega (arith, inv.number);
      groups = c.in_default.ensures.groups;
      gives = more_said old.held w v (seen c.add_statement.new.loaded) ss i s lt is inv.gives said;
      files = both_on old between new inv.files c.add_statement.ensures.files;
      asked = subst (λ (n : ℕ). AsksOnly (UpTo P (role.Insert n)) old.asked new.asked) (sym here)
          (more_asked P c.loop-statement.number (i + 2) s old.asked between.asked new.asked (omega (arith, inv.number)) (stands_behind old.held w v ss i s lt is inv.gives) inv.asked asked);
      once = more_once ss i s old between new lt is inv.once once;
    }

-- where a file is refused

pub returns-in-Err-clause-said : goal.returns-in-Err-clause-said
returns-in-Err-clause-said g c =
    let old = g.F.NamedFiles.state c.args.files.now in
    let w = seen c.args.loaded in
    let v = seen c.loop-statement.loaded in
    let ss = c.args.script.now.statements in
    let i = c.loop-statement.statement-index in
    let s = c.statement-item.result in
    let inv = c.loop-statement.invariant in
    let size = ap (λ (l : List Statement). length l) c.as_slice-statement-items.ensures in
    let lt : i < length ss = omega (arith, size, c.loop-statement-test.true) in
    let is : s ≡ get_or ss i s = cc (c.as_slice-statement-items.ensures, c.statement-item.is) in
    let here : c.loop-statement.number + 1 ≡ i + 2 = omega (arith, inv.number) in
    stop_said old.held w v ss i s c.in-Err.status lt is inv.gives
    (subst (λ (n : ℕ). IsSaidOf {A = Grouped} old.held (λ files. with_files files v (insert_at n s)) (Err c.in-Err.status)) here
    (subst (λ (h : Option Held). IsSaidOf {A = Grouped} h (λ files. with_files files v (insert_at (c.loop-statement.number + 1) s)) (Err c.in-Err.status)) inv.files.held c.in-Err.ensures.said))

pub returns-in-Err-clause-files : goal.returns-in-Err-clause-files
returns-in-Err-clause-files g c = both_on (g.F.NamedFiles.state c.args.files.now) (g.F.NamedFiles.state c.loop-statement.files) (g.F.NamedFiles.state c.add_statement.new.files) c.loop-statement.invariant.files c.add_statement.ensures.files

pub returns-in-Err-clause-causes : goal.returns-in-Err-clause-causes
returns-in-Err-clause-causes g c =
    let old = g.F.NamedFiles.state c.args.files.now in
    let between = g.F.NamedFiles.state c.loop-statement.files in
    let new = g.F.NamedFiles.state c.add_statement.new.files in
    let w = seen c.args.loaded in
    let v = seen c.loop-statement.loaded in
    let ss = c.args.script.now.statements in
    let i = c.loop-statement.statement-index in
    let s = c.statement-item.result in
    let inv = c.loop-statement.invariant in
    let size = ap (λ (l : List Statement). length l) c.as_slice-statement-items.ensures in
    let lt : i < length ss = omega (arith, size, c.loop-statement-test.true) in
    let is : s ≡ get_or ss i s = cc (c.as_slice-statement-items.ensures, c.statement-item.is) in
    let here : c.loop-statement.number + 1 ≡ i + 2 = omega (arith, inv.number) in
    let P = IsBehind old.held w (inserts_of c.args.script.now) in
    rises_so (IsInsert (i + 2) s) P c.in-Err.status old between new (stands_behind old.held w v ss i s lt is inv.gives) inv.files
    (before_this P c.loop-statement.number (i + 2) s old.asked between.asked (omega (arith, inv.number)) inv.asked)
    (subst (λ (n : ℕ). RisesBefore (IsInsert n s) c.in-Err.status between new) here c.in-Err.ensures.causes)

pub returns-in-Err-clause-asked : goal.returns-in-Err-clause-asked
returns-in-Err-clause-asked g c =
    let old = g.F.NamedFiles.state c.args.files.now in
    let between = g.F.NamedFiles.state c.loop-statement.files in
    let new = g.F.NamedFiles.state c.add_statement.new.files in
    let w = seen c.args.loaded in
    let v = seen c.loop-statement.loaded in
    let ss = c.args.script.now.statements in
    let i = c.loop-statement.statement-index in
    let s = c.statement-item.result in
    let inv = c.loop-statement.invariant in
    let size = ap (λ (l : List Statement). length l) c.as_slice-statement-items.ensures in
    let lt : i < length ss = omega (arith, size, c.loop-statement-test.true) in
    let is : s ≡ get_or ss i s = cc (c.as_slice-statement-items.ensures, c.statement-item.is) in
    let here : c.loop-statement.number + 1 ≡ i + 2 = omega (arith, inv.number) in
    let P = IsBehind old.held w (inserts_of c.args.script.now) in
    in_place P (role.Insert (i + 2)) old.asked new.asked
    (more_asked P c.loop-statement.number (i + 2) s old.asked between.asked new.asked (omega (arith, inv.number)) (stands_behind old.held w v ss i s lt is inv.gives) inv.asked
    (subst (λ (n : ℕ). AsksOnly (IsInsert n s) between.asked new.asked) here c.add_statement.ensures.asked))

pub returns-in-Err-clause-once : goal.returns-in-Err-clause-once
returns-in-Err-clause-once g c =
    let old = g.F.NamedFiles.state c.args.files.now in
    let between = g.F.NamedFiles.state c.loop-statement.files in
    let new = g.F.NamedFiles.state c.add_statement.new.files in
    let ss = c.args.script.now.statements in
    let i = c.loop-statement.statement-index in
    let s = c.statement-item.result in
    let inv = c.loop-statement.invariant in
    let size = ap (λ (l : List Statement). length l) c.as_slice-statement-items.ensures in
    let lt : i < length ss = omega (arith, size, c.loop-statement-test.true) in
    let is : s ≡ get_or ss i s = cc (c.as_slice-statement-items.ensures, c.statement-item.is) in
    let here : c.loop-statement.number + 1 ≡ i + 2 = omega (arith, inv.number) in
    stop_once ss i s old between new lt is inv.once (subst (λ (n : ℕ). AsksEach (names_of (insert_at n s)) between new) here c.add_statement.ensures.once)

-- where all files are behind the graph

pub returns-clause-said : goal.returns-clause-said
returns-clause-said g c =
    let old = g.F.NamedFiles.state c.args.files.now in
    let ss = c.args.script.now.statements in
    let i = c.loop-statement.statement-index in
    let size = ap (λ (l : List Statement). length l) c.as_slice-statement-items.ensures in
    let all : take i ss ≡ ss = take_all i ss (omega (arith, size, c.loop-statement-test.false)) in
    subst (λ (l : List Statement). GivesFiles old.held (seen c.args.loaded) (inserts_from 2 l) (seen c.loop-statement.loaded)) all c.loop-statement.invariant.gives

pub returns-clause-asked : goal.returns-clause-asked
returns-clause-asked g c =
    let old = g.F.NamedFiles.state c.args.files.now in
    in_place (IsBehind old.held (seen c.args.loaded) (inserts_of c.args.script.now)) (role.Insert c.loop-statement.number) old.asked (g.F.NamedFiles.state c.loop-statement.files).asked c.loop-statement.invariant.asked

pub returns-clause-once : goal.returns-clause-once
returns-clause-once g c =
    let old = g.F.NamedFiles.state c.args.files.now in
    let ss = c.args.script.now.statements in
    let i = c.loop-statement.statement-index in
    let size = ap (λ (l : List Statement). length l) c.as_slice-statement-items.ensures in
    let all : take i ss ≡ ss = take_all i ss (omega (arith, size, c.loop-statement-test.false)) in
    subst (λ (l : List Statement). AsksEach (names_of (inserts_from 2 l)) old (g.F.NamedFiles.state c.loop-statement.files)) all c.loop-statement.invariant.once
