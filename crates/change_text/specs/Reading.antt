-- What it is to read a change text: its blocks, or its first bad line.
use Rattle.std.specs.Prelude.{◌≡◌, ℕ, ◌-◌, ◌≤◌, List, ◌++◌, length, take}
use Rattle.change_text.specs.declared.fault.ReplayFault.{ReplayFault}
use Rattle.change_text.specs.declared.fault.ReplayFault.TheVariants as fault
use Rattle.change_text.specs.declared.fault.ReplayError.{ReplayError}
use Rattle.change_text.specs.declared.fault.ReplayError.TheVariants as error
use Rattle.change_text.specs.Blocks.{Block, AreBlocks}
use Rattle.change_text.specs.Spelling.{changes_lines, changes_text, ended}

-- the text is a change text of these blocks
pub record IsChanges (text : List ℕ) (blocks : List Block) : Type 0 where
  pub are : AreBlocks blocks
  pub text_is : text ≡ changes_text blocks

-- the first n lines of the text, each with the byte that ends it, are the first n lines of some change text
pub record Begins (n : ℕ) (text : List ℕ) : Type 0 where
  pub blocks : List Block
  pub are : AreBlocks blocks
  pub many : n ≤ length (changes_lines blocks)
  pub rest : List ℕ
  pub text_is : text ≡ ended (take n (changes_lines blocks)) ++ rest

-- the text is no change text, and line n, from 1, is the first that no change text has behind the lines before it; a line that
-- is missing, or that no byte ends, is one that no change text has
pub record IsBadLine (text : List ℕ) (n : ℕ) : Type 0 where
  pub none : (blocks : List Block) → IsChanges text blocks → ⊥
  pub before : Begins (n - 1) text
  pub bad : Begins n text → ⊥

-- what a fault says of the text; that it is too large is for those who fetch it
abbrev pub IsFault : List ℕ → ReplayFault → Type 0
IsFault text (fault.Line n) = IsBadLine text n
IsFault text fault.TooLarge = ⊥

-- and an error
abbrev pub IsError : List ℕ → ReplayError → Type 0
IsError text (error.Fault f) = IsFault text f
IsError text error.NoMemory = Unit {0}
