-- Files of edges that are inserted, one after the other.
use Rattle.std.proofs.Common.{◌≡◌, ◌∙◌, ◌≤◌, ◌<◌, ◌+◌, ◌-◌, ℕ, suc, List, [], ◌∷◌, ◌++◌, length, take, drop, get_or, map, sum, Option, Some, None, Result, Ok, Err, refl, sym, ap, subst, arith, append_assoc, append-nil, length-append}
use Rattle.std.proofs.lemmas.List.{map-append, take_more, take-append-drop, length-take-le}
use Rattle.std.proofs.lemmas.List.Sums.{sum_by_push}
use Rattle.std.proofs.Math.Seq.{drop-cons}
use Rattle.graph_model.specs.GraphData.{GraphData}
use Rattle.graph_loader.specs.DataFiles.{Row, ends_of_row, extended, insert_rows, records_of, result_map, with_rows}
use Rattle.graph_loader.specs.declared.fault.DataFault.{DataFault}
use Rattle.gvdl_tree.specs.declared.script.Statement.{Statement}
use Rattle.gvdl_tree.specs.declared.script.Statement.TheVariants as statement
use Rattle.surge_cli.specs.declared.status.FileRole.{FileRole}
use Rattle.surge_cli.specs.declared.status.FileRole.TheVariants as role
use Rattle.surge_cli.specs.declared.status.Status.{Status}
use Rattle.surge_cli.specs.FilesState.{FilesState, times, AsksEach}
use Rattle.surge_cli.specs.Causes.{AsksOnly, IsUpTo, UpTo}
use Rattle.surge_cli.specs.Expected.{Held, ◌>>=◌, Grouped, insert_at, inserts_from, longer, with_file, with_files}
use Rattle.surge_cli.specs.Reaches.{GivesFiles}
use Rattle.surge_cli.specs.Stages.{IsSaid, IsSaidOf, names_of, IsInsert, IsBehind}
use Rattle.surge_cli.proofs.Reaching.{StandsBefore, asks_both, asks_so}
use Rattle.surge_cli.proofs.Saying.{bind_ok, bind_err}

-- ---- a graph with more edges

grown : (r : Result (List Row) DataFault) (g h : GraphData) → result_map (with_rows g) r ≡ Ok h → length g.ends ≤ length h.ends
grown (Ok rows) g h e =
    let same : with_rows g rows ≡ h = cc in
    let le : length g.ends ≤ length (with_rows g rows).ends = omega (arith, length-append g.ends (map (ends_of_row g.ids) rows)) in
    subst (λ (x : GraphData). length g.ends ≤ length x.ends) same le
grown (Err fault) g h e = absurd cc

-- a further file takes no edge away
pub no_fewer : (statement : ℕ) (bytes : List ℕ) (g h : GraphData) → extended statement bytes g ≡ Ok h → length g.ends ≤ length h.ends
no_fewer statement bytes g h e = grown (insert_rows statement g (records_of bytes)) g h e

sum_push : (xs : List ℕ) (n : ℕ) → sum (xs ++ n ∷ []) ≡ sum xs + n
sum_push xs n = sum_by_push (λ (x : ℕ). x) xs n

-- its edges are counted
pub counted : (groups after : List ℕ) (g h n : ℕ) → sum groups ≡ g → h ≡ g + n → after ≡ groups ++ n ∷ [] → sum after ≡ h
counted groups after g h n all more is =
    let total : sum (groups ++ n ∷ []) ≡ h = omega (arith, sum_push groups n, all, more) in
    ap (λ (l : List ℕ). sum l) is ∙ total

abbrev pub grouping : GraphData → List ℕ → Grouped
grouping g groups = record { graph = g; groups = groups }

pub grouped_longer : (w : Grouped) (h : GraphData) (n : ℕ) (after : List ℕ) → length h.ends ≡ length w.graph.ends + n → after ≡ w.groups ++ n ∷ [] → longer w h ≡ grouping h after
grouped_longer w h n after more is =
    let many : length h.ends - length w.graph.ends ≡ n = omega (arith, more) in
    ap (λ (l : List ℕ). grouping h l) (ap (λ (k : ℕ). w.groups ++ k ∷ []) many ∙ sym is)

-- ---- one stage after the other

bind_same : {A B : Type 0} (m : Result A Status) (f h : A → Result B Status) → ((a : A) → f a ≡ h a) → (m >>= f) ≡ (m >>= h)
bind_same (Ok a) f h e = e a
bind_same (Err s) f h e = refl

bind_both : {A B C : Type 0} (m : Result A Status) (f : A → Result B Status) (h : B → Result C Status) → ((m >>= f) >>= h) ≡ (m >>= (λ a. f a >>= h))
bind_both (Ok a) f h = refl
bind_both (Err s) f h = refl

files_join : (held : Held) (w : Grouped) (xs ys : List (ℕ × List ℕ)) → with_files held w (xs ++ ys) ≡ (with_files held w xs >>= (λ v. with_files held v ys))
files_join held w [] ys = refl
files_join held w (x ∷ xs) ys =
    bind_same (with_file held w x) (λ v. with_files held v (xs ++ ys)) (λ v. with_files held v xs >>= (λ u. with_files held u ys)) (λ v. files_join held v xs ys)
    ∙ sym (bind_both (with_file held w x) (λ v. with_files held v xs) (λ v. with_files held v ys))

-- where the first files give a graph, the others are put behind it
pub files_then : (held : Option Held) (w v : Grouped) (xs ys : List (ℕ × List ℕ)) (r : Result Grouped Status) → GivesFiles held w xs v → IsSaidOf held (λ files. with_files files v ys) r → IsSaidOf held (λ files. with_files files w (xs ++ ys)) r
files_then None w v xs ys r first second = tt
files_then (Some files) w v xs ys r first second =
    subst (λ (m : Result Grouped Status). IsSaid m r) (sym (files_join files w xs ys)) (bind_ok (with_files files w xs) (λ u. with_files files u ys) v r first second)

-- a refusal of the first ones is one of all
pub files_stop : (held : Option Held) (w : Grouped) (xs ys : List (ℕ × List ℕ)) (s : Status) → IsSaidOf held (λ files. with_files files w xs) (Err s) → IsSaidOf held (λ files. with_files files w (xs ++ ys)) (Err s)
files_stop None w xs ys s h = tt
files_stop (Some files) w xs ys s h =
    subst (λ (m : Result Grouped Status). IsSaid m (Err s)) (sym (files_join files w xs ys)) (bind_err (with_files files w xs) (λ u. with_files files u ys) s h)

file_alone : (m : Result Grouped Status) (r : Result Grouped Status) → IsSaid m r → IsSaid (m >>= (λ v. Ok v)) r
file_alone (Ok v) r h = h
file_alone (Err s) r h = h

-- one file alone
pub one_file : (held : Option Held) (w : Grouped) (insert : ℕ × List ℕ) (r : Result Grouped Status) → IsSaidOf held (λ files. with_file files w insert) r → IsSaidOf held (λ files. with_files files w (insert ∷ [])) r
one_file None w insert r h = tt
one_file (Some files) w insert r h = file_alone (with_file files w insert) r h

-- ---- the statements of a script

-- another statement inserts no file
pub none_at : (n : ℕ) (s : Statement) → ((file : List ℕ) → s ≡ statement.Insert file → ⊥) → insert_at n s ≡ []
none_at n (statement.Insert file) h = absurd (h file refl)
none_at n s h = refl

inserts_join : (n : ℕ) (xs ys : List Statement) → inserts_from n (xs ++ ys) ≡ inserts_from n xs ++ inserts_from (n + length xs) ys
inserts_join n [] ys =
    let none : n ≡ n + 0 = omega arith in
    ap (λ (k : ℕ). inserts_from k ys) none
inserts_join n (x ∷ xs) ys =
    let here = insert_at n x in
    let rest = inserts_from (n + 1) xs in
    let count : n + 1 + length xs ≡ n + length (x ∷ xs) = omega arith in
    let next : inserts_from (n + 1) (xs ++ ys) ≡ rest ++ inserts_from (n + length (x ∷ xs)) ys = inserts_join (n + 1) xs ys ∙ ap (λ (k : ℕ). rest ++ inserts_from k ys) count in
    ap (λ (l : List (ℕ × List ℕ)). here ++ l) next ∙ sym (append_assoc here rest (inserts_from (n + length (x ∷ xs)) ys))

-- the files of the first statements, of this one, and of those behind it
inserts_at : (ss : List Statement) (i : ℕ) (d : Statement) → i < length ss → inserts_from 2 ss ≡ inserts_from 2 (take i ss) ++ (insert_at (i + 2) (get_or ss i d) ++ inserts_from (i + 2 + 1) (drop (suc i) ss))
inserts_at ss i d lt =
    let rest = get_or ss i d ∷ drop (suc i) ss in
    let cut : ss ≡ take i ss ++ rest = sym (take-append-drop i ss) ∙ ap (λ (l : List Statement). take i ss ++ l) (drop-cons ss i d lt) in
    let size : length (take i ss) ≡ i = length-take-le i ss (omega (arith, lt)) in
    let count : 2 + length (take i ss) ≡ i + 2 = omega (arith, size) in
    ap (λ (l : List Statement). inserts_from 2 l) cut
    ∙ inserts_join 2 (take i ss) rest
    ∙ ap (λ (k : ℕ). inserts_from 2 (take i ss) ++ inserts_from k rest) count

-- one statement more
inserts_more : (ss : List Statement) (i : ℕ) (d : Statement) → i < length ss → inserts_from 2 (take (i + 1) ss) ≡ inserts_from 2 (take i ss) ++ insert_at (i + 2) (get_or ss i d)
inserts_more ss i d lt =
    let last = get_or ss i d in
    let before = inserts_from 2 (take i ss) in
    let size : length (take i ss) ≡ i = length-take-le i ss (omega (arith, lt)) in
    let count : 2 + length (take i ss) ≡ i + 2 = omega (arith, size) in
    ap (λ (l : List Statement). inserts_from 2 l) (take_more ss i d lt)
    ∙ inserts_join 2 (take i ss) (last ∷ [])
    ∙ ap (λ (k : ℕ). before ++ inserts_from k (last ∷ [])) count
    ∙ ap (λ (l : List (ℕ × List ℕ)). before ++ l) (append-nil (insert_at (i + 2) last))

-- nothing is put behind it before the first statement
pub none_put : (held : Option Held) (w : Grouped) → IsSaidOf held (λ files. with_files files w []) (Ok w)
none_put None w = tt
none_put (Some files) w = refl

-- the files of one statement more
pub more_said : (held : Option Held) (w v u : Grouped) (ss : List Statement) (i : ℕ) (s : Statement) → i < length ss → s ≡ get_or ss i s → GivesFiles held w (inserts_from 2 (take i ss)) v → IsSaidOf held (λ files. with_files files v (insert_at (i + 2) s)) (Ok u) → GivesFiles held w (inserts_from 2 (take (i + 1) ss)) u
more_said held w v u ss i s lt is first second =
    let cut : inserts_from 2 (take (i + 1) ss) ≡ inserts_from 2 (take i ss) ++ insert_at (i + 2) s = inserts_more ss i s lt ∙ ap (λ (x : Statement). inserts_from 2 (take i ss) ++ insert_at (i + 2) x) (sym is) in
    subst (λ (l : List (ℕ × List ℕ)). GivesFiles held w l u) (sym cut) (files_then held w v (inserts_from 2 (take i ss)) (insert_at (i + 2) s) (Ok u) first second)

cut_at : (ss : List Statement) (i : ℕ) (s : Statement) → i < length ss → s ≡ get_or ss i s → inserts_from 2 ss ≡ inserts_from 2 (take i ss) ++ (insert_at (i + 2) s ++ inserts_from (i + 2 + 1) (drop (suc i) ss))
cut_at ss i s lt is = inserts_at ss i s lt ∙ ap (λ (x : Statement). inserts_from 2 (take i ss) ++ (insert_at (i + 2) x ++ inserts_from (i + 2 + 1) (drop (suc i) ss))) (sym is)

-- the file of a statement is refused, those before it were put behind
pub stop_said : (held : Option Held) (w v : Grouped) (ss : List Statement) (i : ℕ) (s : Statement) (why : Status) → i < length ss → s ≡ get_or ss i s → GivesFiles held w (inserts_from 2 (take i ss)) v → IsSaidOf held (λ files. with_files files v (insert_at (i + 2) s)) (Err why) → IsSaidOf held (λ files. with_files files w (inserts_from 2 ss)) (Err why)
stop_said held w v ss i s why lt is first second =
    let rest = inserts_from (i + 2 + 1) (drop (suc i) ss) in
    subst (λ (l : List (ℕ × List ℕ)). IsSaidOf held (λ files. with_files files w l) (Err why)) (sym (cut_at ss i s lt is))
    (files_then held w v (inserts_from 2 (take i ss)) (insert_at (i + 2) s ++ rest) (Err why) first (files_stop held v (insert_at (i + 2) s) rest why second))

-- ---- how often a file is read

times_join : (name : List ℕ) (xs ys : List (List ℕ)) → times name (xs ++ ys) ≡ times name xs + times name ys
times_join name [] ys = omega arith
times_join name (x ∷ xs) ys = omega (arith, times_join name xs ys)

-- the files of one list, and then those of another
pub each_both : (xs ys : List (List ℕ)) (a b c : FilesState) → AsksEach xs a b → AsksEach ys b c → AsksEach (xs ++ ys) a c
each_both xs ys a b c first second = λ name place.
    sum_of (a.asked_at name place) (b.asked_at name place) (c.asked_at name place) (times name xs) (times name ys) (times name (xs ++ ys)) (first name place) (second name place) (times_join name xs ys) where
      sum_of : (x y z s t u : ℕ) → y ≤ x + s → z ≤ y + t → u ≡ s + t → z ≤ x + u
      sum_of x y z s t u h k e = omega (arith, h, k, e)

-- at most those of the first list were read
pub each_front : (xs ys : List (List ℕ)) (a b : FilesState) → AsksEach xs a b → AsksEach (xs ++ ys) a b
each_front xs ys a b first = λ name place.
    sum_of (a.asked_at name place) (b.asked_at name place) (times name xs) (times name ys) (times name (xs ++ ys)) (first name place) (times_join name xs ys) where
      sum_of : (x y s t u : ℕ) → y ≤ x + s → u ≡ s + t → y ≤ x + u
      sum_of x y s t u h e = omega (arith, h, e)

pub names_join : (xs ys : List (ℕ × List ℕ)) → names_of (xs ++ ys) ≡ names_of xs ++ names_of ys
names_join xs ys = map-append (λ (insert : ℕ × List ℕ). insert.1) xs ys

pub more_once : (ss : List Statement) (i : ℕ) (s : Statement) (a b c : FilesState) → i < length ss → s ≡ get_or ss i s → AsksEach (names_of (inserts_from 2 (take i ss))) a b → AsksEach (names_of (insert_at (i + 2) s)) b c → AsksEach (names_of (inserts_from 2 (take (i + 1) ss))) a c
more_once ss i s a b c lt is first second =
    let before = inserts_from 2 (take i ss) in
    let cut : inserts_from 2 (take (i + 1) ss) ≡ before ++ insert_at (i + 2) s = inserts_more ss i s lt ∙ ap (λ (x : Statement). before ++ insert_at (i + 2) x) (sym is) in
    subst (λ (l : List (List ℕ)). AsksEach l a c) (sym (ap (λ (l : List (ℕ × List ℕ)). names_of l) cut ∙ names_join before (insert_at (i + 2) s)))
    (each_both (names_of before) (names_of (insert_at (i + 2) s)) a b c first second)

pub stop_once : (ss : List Statement) (i : ℕ) (s : Statement) (a b c : FilesState) → i < length ss → s ≡ get_or ss i s → AsksEach (names_of (inserts_from 2 (take i ss))) a b → AsksEach (names_of (insert_at (i + 2) s)) b c → AsksEach (names_of (inserts_from 2 ss)) a c
stop_once ss i s a b c lt is first second =
    let before = inserts_from 2 (take i ss) in
    let here = insert_at (i + 2) s in
    let rest = inserts_from (i + 2 + 1) (drop (suc i) ss) in
    let names : names_of (inserts_from 2 ss) ≡ names_of before ++ (names_of here ++ names_of rest) =
    ap (λ (l : List (ℕ × List ℕ)). names_of l) (cut_at ss i s lt is) ∙ names_join before (here ++ rest) ∙ ap (λ (l : List (List ℕ)). names_of before ++ l) (names_join here rest) in
    subst (λ (l : List (List ℕ)). AsksEach l a c) (sym names)
    (each_both (names_of before) (names_of here ++ names_of rest) a b c first (each_front (names_of here) (names_of rest) b c second))

-- ---- places

-- the file of this statement is one of all, and those before it were read and were right
pub stands_behind : (held : Option Held) (w v : Grouped) (ss : List Statement) (i : ℕ) (s : Statement) → i < length ss → s ≡ get_or ss i s → GivesFiles held w (inserts_from 2 (take i ss)) v → (r : FileRole) (name : List ℕ) → IsInsert (i + 2) s r name → IsBehind held w (inserts_from 2 ss) r name
stands_behind held w v ss i s lt same gives r name is =
    let before = inserts_from 2 (take i ss) in
    let after = inserts_from (i + 2 + 1) (drop (suc i) ss) in
    subst (λ (x : FileRole). IsBehind held w (inserts_from 2 ss) x name) (sym is.0)
    (before, after, cut_at ss i s lt same ∙ ap (λ (l : List (ℕ × List ℕ)). before ++ (l ++ after)) is.1, (v, gives))

up_to_here : (n : ℕ) (s : Statement) (r : FileRole) (name : List ℕ) → IsInsert n s r name → IsUpTo (role.Insert n) r
up_to_here n s r name is = subst (λ (x : FileRole). IsUpTo (role.Insert n) x) (sym is.0) (le n) where
  le : (k : ℕ) → k ≤ k
  le k = omega arith

-- what was asked up to a statement was asked up to a later one
pub later : (P : FileRole → List ℕ → Type 0) (m n : ℕ) (f g : List ℕ → ℕ) → m ≤ n → AsksOnly (UpTo P (role.Insert m)) f g → AsksOnly (UpTo P (role.Insert n)) f g
later P m n f g le h = λ name no. h name (λ r is. no r (wider r is.0, is.1)) where
  wider : (r : FileRole) → IsUpTo (role.Insert m) r → IsUpTo (role.Insert n) r
  wider role.Script up = tt
  wider role.Nodes up = tt
  wider role.Edges up = tt
  wider role.Changes up = tt
  wider (role.Insert k) up = omega (arith, up, le)

-- all that was asked up to a statement stands in its place
pub in_place : (P : FileRole → List ℕ → Type 0) (last : FileRole) (f g : List ℕ → ℕ) → AsksOnly (UpTo P last) f g → AsksOnly P f g
in_place P last f g h = λ name no. h name (λ r is. no r is.1)

-- one statement more: what was asked before it and for it
pub more_asked : (P : FileRole → List ℕ → Type 0) (m n : ℕ) (s : Statement) (f g h : List ℕ → ℕ) → m ≤ n → ((r : FileRole) (name : List ℕ) → IsInsert n s r name → P r name) → AsksOnly (UpTo P (role.Insert m)) f g → AsksOnly (IsInsert n s) g h → AsksOnly (UpTo P (role.Insert n)) f h
more_asked P m n s f g h le to first second =
    asks_both (UpTo P (role.Insert n)) f g h (later P m n f g le first) (asks_so (IsInsert n s) (UpTo P (role.Insert n)) g h (λ r name is. (up_to_here n s r name is, to r name is)) second)

-- what was asked before a statement stands before its file
pub before_this : (P : FileRole → List ℕ → Type 0) (m n : ℕ) (s : Statement) (f g : List ℕ → ℕ) → m ≤ n → AsksOnly (UpTo P (role.Insert m)) f g → StandsBefore (IsInsert n s) P f g
before_this P m n s f g le h = λ r name is. subst (λ (x : FileRole). AsksOnly (UpTo P x) f g) (sym is.0) (later P m n f g le h)
