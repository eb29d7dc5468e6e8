-- Operators that are made of two others.
use Rattle.std.specs.Prelude.{◌≡◌, ℕ, ◌+◌, List, ◌++◌, map}
use Rattle.flow_core.specs.declared.side.Side.{Side}
use Rattle.flow_core.specs.declared.side.Side.TheVariants.{Left, Right}
use Rattle.weighted.specs.WordLaws.{mapped}
use Rattle.flow_core.specs.Runs.{Step, Run}

-- each part stands for a run that is made of the steps which the steps of the whole hand to it: links stand for the
-- steps of the whole, and whole, first and second give of each link the step of the whole and those of the parts
pub record StandsByParts {T I O J M K P X : Type 0} (whole : X → Step T I O) (first : X → Step T J M) (second : X → Step T K P) (first_stands : Run T J M → Type 0) (second_stands : Run T K P → Type 0) (run : Run T I O) : Type 0 where
  pub links : List X
  pub first_base : ℕ
  pub second_base : ℕ
  pub steps : run.steps ≡ map whole links
  -- the charges at the seal sum to that of the whole
  pub base : first_base + second_base ≡ run.base
  -- each step of the whole hands one step to each part, so as many came before the seal
  pub first_run : first_stands (record { steps = map first links; before = run.before; base = first_base })
  pub second_run : second_stands (record { steps = map second links; before = run.before; base = second_base })

-- ---- one after the other

-- a step of both: what the first makes is handed on to the second, and the whole is charged what both are
pub record Link (T I M O : Type 0) : Type 0 where
  pub time : T
  pub fed : List (I × ℕ)
  pub handed : List (M × ℕ)
  pub made : List (O × ℕ)
  pub first_charge : ℕ
  pub second_charge : ℕ

abbrev pub link_whole : {T I M O : Type 0} → Link T I M O → Step T I O
link_whole l = record { time = l.time; fed = l.fed; made = l.made; charge = l.first_charge + l.second_charge }

abbrev pub link_first : {T I M O : Type 0} → Link T I M O → Step T I M
link_first l = record { time = l.time; fed = l.fed; made = l.handed; charge = l.first_charge }

abbrev pub link_second : {T I M O : Type 0} → Link T I M O → Step T M O
link_second l = record { time = l.time; fed = l.handed; made = l.made; charge = l.second_charge }

abbrev pub StandsByLinks : {T I M O : Type 0} → (Run T I M → Type 0) → (Run T M O → Type 0) → Run T I O → Type 0
StandsByLinks first second run = StandsByParts link_whole link_first link_second first second run

-- ---- side by side

-- a step of both: each is fed the same, and makes a side of what is made; the whole is charged what both are
pub record Branch (T I M O : Type 0) : Type 0 where
  pub time : T
  pub fed : List (I × ℕ)
  pub left : List (M × ℕ)
  pub right : List (O × ℕ)
  pub first_charge : ℕ
  pub second_charge : ℕ

-- the sum of two collections, the records of each on its side
abbrev pub both_sides : {M O : Type 0} → List (M × ℕ) → List (O × ℕ) → List (Side M O × ℕ)
both_sides left right = mapped Left left ++ mapped Right right

abbrev pub branch_whole : {T I M O : Type 0} → Branch T I M O → Step T I (Side M O)
branch_whole b = record { time = b.time; fed = b.fed; made = both_sides b.left b.right; charge = b.first_charge + b.second_charge }

abbrev pub branch_first : {T I M O : Type 0} → Branch T I M O → Step T I M
branch_first b = record { time = b.time; fed = b.fed; made = b.left; charge = b.first_charge }

abbrev pub branch_second : {T I M O : Type 0} → Branch T I M O → Step T I O
branch_second b = record { time = b.time; fed = b.fed; made = b.right; charge = b.second_charge }

abbrev pub StandsByBranches : {T I M O : Type 0} → (Run T I M → Type 0) → (Run T I O → Type 0) → Run T I (Side M O) → Type 0
StandsByBranches first second run = StandsByParts branch_whole branch_first branch_second first second run
