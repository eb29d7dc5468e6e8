-- Pages that grow by pieces, one part after the other.
use Rattle.std.proofs.Common.{◌≡◌, ◌∙◌, ◌++◌, ◌∷◌, [], ℕ, Bool, true, false, List, refl, ap, sym, append_assoc, Result, Ok, Err, drop, length, get_or, suc, ◌<◌, ◌≤◌, ◌+◌, ◌-◌, zero, take, arith, drop-cons, drop_of_length-le, add-one}
use Rattle.std.specs.Prelude.{IfOk, if◌then◌else◌, ◌||◌}
use Rattle.std.specs.List.{flat_map}
use Rattle.std.proofs.lemmas.List.{append-nil}
use Rattle.gvdl_tokens.specs.declared.token.Sign.TheVariants as s
use Rattle.gvdl_tokens.specs.Printing.{spell}
use Rattle.gvdl_printer.specs.declared.page.Page.{Page}
use Rattle.gvdl_printer.specs.Layout.{Piece, sign, call_open, starts_close, ends_close, space_unless, laid, laid_out, line}
use Rattle.gvdl_printer.specs.Canonical.{enclosed, joined, in_call}
use Rattle.gvdl_printer.specs.Pages.{close_after, wrote}

close_after-append : (close : Bool) (xs ys : List Piece) → close_after close (xs ++ ys) ≡ close_after (close_after close xs) ys
close_after-append close [] ys = refl
close_after-append close (x ∷ xs) ys = close_after-append (ends_close x.token x.tight) xs ys

pub laid-append : (close : Bool) (xs ys : List Piece) → laid close (xs ++ ys) ≡ laid close xs ++ laid (close_after close xs) ys
laid-append close [] ys = refl
laid-append close (x ∷ xs) ys =
    let gap : List ℕ = space_unless (close || starts_close x.token x.tight) in
    let front : List ℕ = laid (ends_close x.token x.tight) xs in
    let back : List ℕ = laid (close_after (ends_close x.token x.tight) xs) ys in
    ap (λ (bytes : List ℕ). gap ++ (spell x.token ++ bytes)) (laid-append (ends_close x.token x.tight) xs ys)
    ∙ ap (λ (bytes : List ℕ). gap ++ bytes) (sym (append_assoc (spell x.token) front back))
    ∙ sym (append_assoc gap (spell x.token ++ front) back)

pub wrote_more : (page : Page) (xs ys : List Piece) → wrote (wrote page xs) ys ≡ wrote page (xs ++ ys)
unfolding wrote
wrote_more page xs ys =
    let texts : (page.text ++ laid page.close xs) ++ laid (close_after page.close xs) ys ≡ page.text ++ laid page.close (xs ++ ys) = append_assoc page.text (laid page.close xs) (laid (close_after page.close xs) ys) ∙ ap (λ (bytes : List ℕ). page.text ++ bytes) (sym (laid-append page.close xs ys)) in
    let closes : close_after (close_after page.close xs) ys ≡ close_after page.close (xs ++ ys) = sym (close_after-append page.close xs ys) in
    cc

pub wrote_none : (page : Page) → wrote page [] ≡ page
unfolding wrote
wrote_none page = ap (λ (bytes : List ℕ). record { text = bytes; close = page.close }) (append-nil page.text)

pub ruleset growing = (wrote_more, wrote_none)

-- a part behind a part
pub then_more : (old mid new : Page) (xs ys : List Piece) → mid ≡ wrote old xs → new ≡ wrote mid ys → new ≡ wrote old (xs ++ ys)
then_more old mid new xs ys h k = k ∙ ap (λ (page : Page). wrote page ys) h ∙ wrote_more old xs ys

-- the same pieces by another name
pub as_written : {T E : Type 0} (r : Result T E) (old new : Page) (xs whole : List Piece) → IfOk r (λ _. new ≡ wrote old xs) → xs ≡ whole → IfOk r (λ _. new ≡ wrote old whole)
as_written (Ok v) old new xs whole h e = h ∙ ap (wrote old) e
as_written (Err v) old new xs whole h e = tt

-- the last part
pub ended : {T E : Type 0} (r : Result T E) (old mid new : Page) (xs ys whole : List Piece) → mid ≡ wrote old xs → IfOk r (λ _. new ≡ wrote mid ys) → xs ++ ys ≡ whole → IfOk r (λ _. new ≡ wrote old whole)
ended (Ok v) old mid new xs ys whole h k e = then_more old mid new xs ys h k ∙ ap (wrote old) e
ended (Err v) old mid new xs ys whole h k e = tt

-- what stands in parentheses, or not
pub in_parentheses : (needed : Bool) (xs : List Piece) → ((if needed then sign s.Open ∷ [] else []) ++ xs) ++ (if needed then sign s.Close ∷ [] else []) ≡ enclosed needed xs
in_parentheses true xs = refl
in_parentheses false xs = append-nil xs

-- ---- loops

cut_at : {A : Type 0} (xs : List A) (i : ℕ) (a : A) → i < length xs → a ≡ get_or xs i a → drop i xs ≡ a ∷ drop (i + 1) xs
cut_at {A} xs i a lt is = drop-cons xs i a lt ∙ ap (λ (x : A). x ∷ drop (suc i) xs) (sym is) ∙ ap (λ (j : ℕ). a ∷ drop j xs) (sym (add-one i))

-- one part more of a list of parts
pub part_more : {A : Type 0} (g : A → List Piece) (xs : List A) (i : ℕ) (a : A) (page new whole : Page) → i < length xs → a ≡ get_or xs i a → new ≡ wrote page (g a) → wrote page (flat_map g (drop i xs)) ≡ whole → wrote new (flat_map g (drop (i + 1) xs)) ≡ whole
part_more {A} g xs i a page new whole lt is h so_far =
    let rest : List Piece = flat_map g (drop (i + 1) xs) in
    ap (λ (p : Page). wrote p rest) h ∙ wrote_more page (g a) rest ∙ ap (λ (ys : List A). wrote page (flat_map g ys)) (sym (cut_at xs i a lt is)) ∙ so_far

-- nothing is left
pub loop_done : {A : Type 0} (g : A → List Piece) (xs : List A) (i : ℕ) (page whole : Page) → length xs ≤ i → wrote page (flat_map g (drop i xs)) ≡ whole → page ≡ whole
loop_done {A} g xs i page whole le h = sym (wrote_none page) ∙ ap (λ (ys : List A). wrote page (flat_map g ys)) (sym (drop_of_length-le xs le)) ∙ h

take_whole : {A : Type 0} (xs : List A) (n : ℕ) → n ≡ length xs → take n xs ≡ xs
take_whole [] zero e = refl
take_whole [] (suc n) e = refl
take_whole (x ∷ xs) zero e = absurd (omega (arith, e))
take_whole {A} (x ∷ xs) (suc n) e = ap (λ (ys : List A). x ∷ ys) (take_whole xs n (omega (arith, e)))

-- a list with a first member, and the others
pub first_and_others : {A : Type 0} (xs : List A) (a : A) → 1 ≤ length xs → a ≡ get_or xs 0 a → xs ≡ a ∷ take (length xs - 1) (drop 1 xs)
first_and_others [] a le is = absurd (omega (arith, le))
first_and_others {A} (x ∷ xs) a le is = ap (λ (y : A). y ∷ xs) (sym is) ∙ ap (λ (ys : List A). a ∷ ys) (sym (take_whole xs (length (x ∷ xs) - 1) (omega arith)))

-- the others of a chain, behind its first member
abbrev others_of : {A : Type 0} → List A → List A
others_of members = take (length members - 1) (drop 1 members)

pub chain_done : {A : Type 0} (x : Piece) (f : A → List Piece) (members : List A) (first : A) (i : ℕ) (old mid page : Page) → 1 ≤ length members → first ≡ get_or members 0 first → mid ≡ wrote old (f first) → length (others_of members) ≤ i
    → wrote page (flat_map (λ a. x ∷ f a) (drop i (others_of members))) ≡ wrote mid (flat_map (λ a. x ∷ f a) (others_of members)) → page ≡ wrote old (joined x f members)
chain_done {A} x f members first i old mid page le is h done so_far =
    loop_done (λ a. x ∷ f a) (others_of members) i page _ done so_far
    ∙ ap (λ (p : Page). wrote p (flat_map (λ a. x ∷ f a) (others_of members))) h
    ∙ wrote_more old (f first) (flat_map (λ a. x ∷ f a) (others_of members))
    ∙ ap (λ (ys : List A). wrote old (joined x f ys)) (sym (first_and_others members first le is))

-- a list in parentheses, but for the ) at its end
pub call_done : {A : Type 0} (f : A → List Piece) (members : List A) (first : A) (i : ℕ) (old opened mid page : Page) → 1 ≤ length members → first ≡ get_or members 0 first → opened ≡ wrote old (call_open ∷ []) → mid ≡ wrote opened (f first) → length (others_of members) ≤ i
    → wrote page (flat_map (λ a. sign s.Comma ∷ f a) (drop i (others_of members))) ≡ wrote mid (flat_map (λ a. sign s.Comma ∷ f a) (others_of members)) → page ≡ wrote old (call_open ∷ joined (sign s.Comma) f members)
call_done f members first i old opened mid page le is k h done so_far =
    then_more old opened page (call_open ∷ []) (joined (sign s.Comma) f members) k (chain_done (sign s.Comma) f members first i opened mid page le is h done so_far)

pub called_is : {A : Type 0} (f : A → List Piece) (members : List A) → 1 ≤ length members → (call_open ∷ joined (sign s.Comma) f members) ++ sign s.Close ∷ [] ≡ in_call f members
called_is f [] le = absurd (omega (arith, le))
called_is f (a ∷ members) le = refl

-- one line more
pub line_more : {A : Type 0} (g : A → List ℕ) (xs : List A) (i : ℕ) (a : A) (text new whole : List ℕ) → i < length xs → a ≡ get_or xs i a → new ≡ text ++ g a → text ++ flat_map g (drop i xs) ≡ whole → new ++ flat_map g (drop (i + 1) xs) ≡ whole
line_more {A} g xs i a text new whole lt is h so_far =
    let rest : List ℕ = flat_map g (drop (i + 1) xs) in
    ap (λ (bytes : List ℕ). bytes ++ rest) h ∙ append_assoc text (g a) rest ∙ ap (λ (ys : List A). text ++ flat_map g ys) (sym (cut_at xs i a lt is)) ∙ so_far

-- ---- one token

-- a space or none, and the bytes of a piece
pub put_is : (page : Page) (x : Piece) (spaced bytes written : List ℕ) → spaced ≡ page.text ++ space_unless (page.close || starts_close x.token x.tight) → bytes ≡ spaced ++ written → written ≡ spell x.token → record { text = bytes; close = ends_close x.token x.tight } ≡ wrote page (x ∷ [])
unfolding wrote
put_is page x spaced bytes written h k e =
    let gap : List ℕ = space_unless (page.close || starts_close x.token x.tight) in
    let whole : bytes ≡ page.text ++ (gap ++ (spell x.token ++ [])) = k ∙ ap (λ (y : List ℕ). spaced ++ y) e ∙ ap (λ (y : List ℕ). y ++ spell x.token) h ∙ append_assoc page.text gap (spell x.token) ∙ ap (λ (y : List ℕ). page.text ++ (gap ++ y)) (sym (append-nil (spell x.token))) in
    ap (λ (y : List ℕ). record { text = y; close = ends_close x.token x.tight }) whole

-- ---- texts

-- what is written on a new page
pub fresh_text : (old new : Page) (pieces : List Piece) → old ≡ record { text = []; close = true } → new ≡ wrote old pieces → new.text ≡ laid_out pieces
unfolding wrote
fresh_text old new pieces h k = ap (λ (page : Page). page.text) k ∙ ap (λ (page : Page). page.text ++ laid page.close pieces) h

pub fresh_line : (old new : Page) (pieces : List Piece) → old ≡ record { text = []; close = true } → new ≡ wrote old pieces → new.text ++ 10 ∷ [] ≡ line pieces
fresh_line old new pieces h k = ap (λ (bytes : List ℕ). bytes ++ 10 ∷ []) (fresh_text old new pieces h k)

-- the same text by another name
pub same_text : {E : Type 0} (r : Result (List ℕ) E) (x y : List ℕ) → IfOk r (λ text. text ≡ x) → x ≡ y → IfOk r (λ text. text ≡ y)
same_text (Ok text) x y h e = h ∙ e
same_text (Err v) x y h e = tt

-- no line is left
pub lines_done : {A : Type 0} (g : A → List ℕ) (xs : List A) (i : ℕ) (text whole : List ℕ) → length xs ≤ i → text ++ flat_map g (drop i xs) ≡ whole → text ≡ whole
lines_done {A} g xs i text whole le h = sym (append-nil text) ∙ ap (λ (ys : List A). text ++ flat_map g ys) (sym (drop_of_length-le xs le)) ∙ h

-- the pieces before and behind what may stand in parentheses
abbrev pub before : Bool → List Piece
before needed = if needed then sign s.Open ∷ [] else []

abbrev pub behind : Bool → List Piece
behind needed = if needed then sign s.Close ∷ [] else []
