-- The tokens by which the grammar speaks.
use Rattle.std.specs.Prelude.{ℕ, ℤ, pos, neg_ℤ, Bool, true, false, List}
use Rattle.phrase_theory.specs.Phrases.{◌>>=◌, ◌>>◌, ◌∣◌, one, word, pure}
use Rattle.gvdl_tokens.specs.declared.token.Token.{Token}
use Rattle.gvdl_tokens.specs.declared.token.Token.TheVariants as t
use Rattle.gvdl_tokens.specs.declared.token.Sign.{Sign}
use Rattle.gvdl_tokens.specs.declared.token.Sign.TheVariants as s
use Rattle.gvdl_tokens.specs.declared.word.Word.{Word}
use Rattle.gvdl_tokens.specs.declared.word.Word.TheVariants as w
use Rattle.gvdl_tree.specs.declared.predicate.Cmp.{Cmp}
use Rattle.gvdl_tree.specs.declared.predicate.Cmp.TheVariants as cmp
use Rattle.gvdl_tree.specs.declared.expression.Word.{Word as ValueWord}
use Rattle.gvdl_tree.specs.declared.expression.Word.TheVariants as value
use Rattle.gvdl_tree.specs.declared.script.Along.{Along}
use Rattle.gvdl_tree.specs.declared.script.Along.TheVariants as along
use Rattle.gvdl_tree.specs.declared.script.Gather.{Gather}
use Rattle.gvdl_tree.specs.declared.script.Gather.TheVariants as gather
use Rattle.gvdl_tree.specs.declared.script.OrderWord.{OrderWord}
use Rattle.gvdl_tree.specs.declared.script.OrderWord.TheVariants as order

-- a reserved word
abbrev pub keyword : Word → List Token → Unit {0} → Type 0
keyword w = word (t.Word w)

-- a sign
abbrev pub mark : Sign → List Token → Unit {0} → Type 0
mark s = word (t.Sign s)

-- ---- words and signs that mean a value

-- cmp = "=" | "!=" | "<" | "<=" | ">" | ">="
abbrev pub cmp_token : Cmp → Token
cmp_token cmp.Eq = t.Sign s.Equal
cmp_token cmp.Ne = t.Sign s.NotEqual
cmp_token cmp.Lt = t.Sign s.Less
cmp_token cmp.Le = t.Sign s.AtMost
cmp_token cmp.Gt = t.Sign s.Greater
cmp_token cmp.Ge = t.Sign s.AtLeast

-- "true" | "false"
abbrev pub truth_token : Bool → Token
truth_token true = t.Word w.True
truth_token false = t.Word w.False

-- "id" | "start" | "value" | "gathered" | "count" | "outdeg"
abbrev pub value_token : ValueWord → Token
value_token value.Id = t.Word w.Id
value_token value.Start = t.Word w.Start
value_token value.Value = t.Word w.Value
value_token value.Gathered = t.Word w.Gathered
value_token value.Count = t.Word w.Count
value_token value.Outdeg = t.Word w.Outdeg

-- "+" | "-", of which the first is true
abbrev pub term_token : Bool → Token
term_token true = t.Sign s.Plus
term_token false = t.Sign s.Minus

-- "*" | "/", of which the first is true
abbrev pub factor_token : Bool → Token
factor_token true = t.Sign s.Star
factor_token false = t.Sign s.Slash

-- "max" | "min", of which the first is true
abbrev pub extreme_token : Bool → Token
extreme_token true = t.Word w.Max
extreme_token false = t.Word w.Min

-- "out" | "in" | "both"
abbrev pub along_token : Along → Token
along_token along.Out = t.Word w.Out
along_token along.In = t.Word w.In
along_token along.Both = t.Word w.Both

-- "min" | "max" | "sum" | "count"
abbrev pub gather_token : Gather → Token
gather_token gather.Min = t.Word w.Min
gather_token gather.Max = t.Word w.Max
gather_token gather.Sum = t.Word w.Sum
gather_token gather.Count = t.Word w.Count

-- "greedy" | "declared" | "tree"
abbrev pub order_token : OrderWord → Token
order_token order.Greedy = t.Word w.Greedy
order_token order.Declared = t.Word w.Declared
order_token order.Tree = t.Word w.Tree

-- "within" | "for", of which the first is true
abbrev pub within_token : Bool → Token
within_token true = t.Word w.Within
within_token false = t.Word w.For

-- ---- numbers and properties

-- int = [ "-" ] number
unfoldable pub int : List Token → ℤ → Type 0
int = (do n ← one t.Number; pure (pos n))
    ∣ (do mark s.Minus; n ← one t.Number; pure (neg_ℤ (pos n)))

-- prop = name | quoted name
unfoldable pub prop : List Token → List ℕ → Type 0
prop = one t.Name ∣ one t.Quoted

-- ---- levels

-- the tokens that may open a level
abbrev pub opens : Token → Bool
opens (t.Sign s.Open) = true
opens (t.Sign s.Minus) = true
opens (t.Word w.Not) = true
opens (t.Word w.If) = true
opens _ = false
