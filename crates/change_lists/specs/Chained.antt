-- Lists of which the short ones lie one behind the other, and the long ones each alone.
use Rattle.std.specs.Prelude.{◌<◌, ◌≤◌, ℕ, List, [], length, get_or, take, drop, map, All}
use Rattle.change_lists.specs.declared.chained.Site.{Site}
use Rattle.change_lists.specs.declared.chained.Site.TheVariants as sites

-- the list that stands there, given the items of the short ones and the long ones
abbrev pub list_at : {A : Type 0} → List A → List (List A) → Site → List A
list_at items long (sites.Short from to) = drop from (take to items)
list_at items long (sites.Long number) = get_or long number []

-- the lists that stand at these sites
abbrev pub lists_at : {A : Type 0} → List A → List (List A) → List Site → List (List A)
lists_at items long all = map (list_at items long) all

-- a list can stand there, given how many items and long lists there are
abbrev pub IsSite : ℕ → ℕ → Site → Type 0
IsSite n m (sites.Short from to) = (from ≤ to) × (to ≤ n)
IsSite n m (sites.Long number) = number < m

-- lists can stand at these sites
abbrev pub AreSites : {A : Type 0} → List A → List (List A) → List Site → Type 0
AreSites items long all = All (IsSite (length items) (length long)) all
