-- One more line of a segment, and the lines of one more segment.
use Rattle.std.proofs.Common.{◌≡◌, ◌∙◌, ◌+◌, ◌<◌, ℕ, List, [], ◌∷◌, ◌++◌, length, take, get_or, codes, append-nil, append_assoc, Option, Some, slice_get, refl, sym, ap, ap₂, arith}
use Rattle.std.specs.Fmt.{decimal}
use Rattle.std.proofs.lemmas.List.{take_more, length-take, length-map, get_or-map}
use Rattle.std.proofs.lemmas.Option.{slice_get_within, get_or_from_slice_get}
use Rattle.graph_model.specs.declared.number.ViewNo.{ViewNo}
use Rattle.gvdl_check.specs.declared.plan.ViewPlan.{ViewPlan}
use Rattle.view_order.specs.Greedy.{numbers}
use Rattle.view_order.specs.Places.{view}
use Rattle.result_tables.specs.TableText.{line_end}
use Rattle.view_segment.specs.declared.segment.Segment.{Segment}
use Rattle.surge_session.specs.Output.{list_of, work_line, segment_lines}
use Rattle.surge_session.specs.WorkLines.{lines_of}
use Rattle.surge_session.proofs.Running.{line_added, segment_added}

pub no_lines : (views : List ViewPlan) (number : ℕ) (vs : List ℕ) (old : List ℕ) → old ≡ old ++ segment_lines views number vs []
no_lines views number [] old = sym (append-nil old)
no_lines views number (v ∷ vs) old = sym (append-nil old)

pub line_more : (views : List ViewPlan) (number i w : ℕ) (vs : List ViewNo) (works : List ℕ) (v : ViewNo) (item : ViewPlan) (old mid new name : List ℕ) → length works ≡ length vs → i < length works → w ≡ get_or works i 0 → v ≡ get_or vs i (view 0)
    → slice_get views v.0 ≡ Some item → name ≡ item.name → mid ≡ old ++ segment_lines views number (numbers vs) (take i works)
    → new ≡ mid ++ (name ++ (codes " " ++ (decimal number ++ (codes " " ++ (decimal w ++ line_end))))) → new ≡ old ++ segment_lines views number (numbers vs) (take (i + 1) works)
line_more views number i w vs works v item old mid new name finished lt is seen at named so_far more =
    let ns = numbers vs in
    let tail : List ℕ = codes " " ++ (decimal number ++ (codes " " ++ (decimal w ++ line_end))) in
    let before : List ℕ = segment_lines views number ns (take i works) in
    let taken : length (take i works) ≡ i = omega (arith, length-take i works, lt) in
    let here : get_or ns (length (take i works)) 0 ≡ v.0 =
    ap (λ (k : ℕ). get_or ns k 0) taken ∙ get_or-map (λ (u : ViewNo). u.0) vs i (view 0) 0 (omega (arith, lt, finished)) ∙ ap (λ (u : ViewNo). u.0) (sym seen) in
    let line : work_line views number (get_or ns (length (take i works)) 0) (get_or works i 0) ≡ name ++ tail =
    ap₂ (λ (a b : ℕ). work_line views number a b) here (sym is)
    ∙ ap (λ (o : Option ViewPlan). list_of (λ (x : ViewPlan). x.name) o ++ tail) at
    ∙ ap (λ (n : List ℕ). n ++ tail) (sym named) in
    let grown : segment_lines views number ns (take (i + 1) works) ≡ before ++ (name ++ tail) =
    ap (λ (ws : List ℕ). segment_lines views number ns ws) (take_more works i 0 lt)
    ∙ line_added views number ns (take i works) (get_or works i 0) (omega (arith, taken, lt, finished, length-map vs (λ (u : ViewNo). u.0)))
    ∙ ap (λ (t : List ℕ). before ++ t) line in
    more ∙ ap (λ (t : List ℕ). t ++ (name ++ tail)) so_far ∙ append_assoc old before (name ++ tail) ∙ ap (λ (t : List ℕ). old ++ t) (sym grown)

pub segment_more : (views : List ViewPlan) (ss : List Segment) (i : ℕ) (s : Segment) (old mid new : List ℕ) → slice_get ss i ≡ Some s → mid ≡ old ++ lines_of views 1 (take i ss) → new ≡ mid ++ segment_lines views (i + 1) (numbers s.views) s.works
    → new ≡ old ++ lines_of views 1 (take (i + 1) ss)
segment_more views ss i s old mid new at so_far more =
    let lt : i < length ss = slice_get_within ss i s at in
    let before : List ℕ = lines_of views 1 (take i ss) in
    let here : List ℕ = segment_lines views (i + 1) (numbers s.views) s.works in
    let longer : take (i + 1) ss ≡ take i ss ++ s ∷ [] = take_more ss i s lt ∙ ap (λ (y : Segment). take i ss ++ y ∷ []) (get_or_from_slice_get ss i s s at) in
    let number : 1 + length (take i ss) ≡ i + 1 = omega (arith, length-take i ss, lt) in
    let grown : lines_of views 1 (take (i + 1) ss) ≡ before ++ here =
    ap (λ (xs : List Segment). lines_of views 1 xs) longer ∙ segment_added views 1 (take i ss) s ∙ ap (λ (j : ℕ). before ++ segment_lines views j (numbers s.views) s.works) number in
    more ∙ ap (λ (t : List ℕ). t ++ here) so_far ∙ append_assoc old before here ∙ ap (λ (t : List ℕ). old ++ t) (sym grown)
