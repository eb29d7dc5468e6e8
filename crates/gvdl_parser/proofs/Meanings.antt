-- Words and signs that mean a value: from their kind to the token, and to the value.
use Rattle.std.proofs.Common.{◌≡◌, Bool, true, false, Option, Some, refl}
use Rattle.gvdl_tokens.specs.declared.token.Token.{Token}
use Rattle.gvdl_tokens.specs.Tokens.{kind_of}
use Rattle.gvdl_tree.specs.declared.predicate.Cmp.{Cmp}
use Rattle.gvdl_tree.specs.declared.predicate.Cmp.TheVariants as cmp
use Rattle.gvdl_tree.specs.declared.expression.Word.{Word as ValueWord}
use Rattle.gvdl_tree.specs.declared.expression.Word.TheVariants as value
use Rattle.gvdl_tree.specs.declared.script.Along.{Along}
use Rattle.gvdl_tree.specs.declared.script.Along.TheVariants as along
use Rattle.gvdl_tree.specs.declared.script.Gather.{Gather}
use Rattle.gvdl_tree.specs.declared.script.Gather.TheVariants as gather
use Rattle.gvdl_tree.specs.declared.script.OrderWord.{OrderWord}
use Rattle.gvdl_tree.specs.declared.script.OrderWord.TheVariants as order
use Rattle.gvdl_parser.specs.Kinds.{kind_at}
use Rattle.gvdl_parser.specs.Terminals.{cmp_token, truth_token, value_token, term_token, factor_token, extreme_token, along_token, gather_token, order_token, within_token}
use Rattle.gvdl_parser.proofs.Nexts.{word_at, sign_at}

pub cmp_token_at : (v : Cmp) (x : Option Token) → kind_at x ≡ kind_of (cmp_token v) → x ≡ Some (cmp_token v)
cmp_token_at cmp.Eq x e = sign_at x _ e
cmp_token_at cmp.Ne x e = sign_at x _ e
cmp_token_at cmp.Lt x e = sign_at x _ e
cmp_token_at cmp.Le x e = sign_at x _ e
cmp_token_at cmp.Gt x e = sign_at x _ e
cmp_token_at cmp.Ge x e = sign_at x _ e

pub cmp_token_one : (v u : Cmp) → cmp_token u ≡ cmp_token v → u ≡ v
cmp_token_one cmp.Eq cmp.Eq e = refl
cmp_token_one cmp.Eq cmp.Ne e = absurd cc
cmp_token_one cmp.Eq cmp.Lt e = absurd cc
cmp_token_one cmp.Eq cmp.Le e = absurd cc
cmp_token_one cmp.Eq cmp.Gt e = absurd cc
cmp_token_one cmp.Eq cmp.Ge e = absurd cc
cmp_token_one cmp.Ne cmp.Eq e = absurd cc
cmp_token_one cmp.Ne cmp.Ne e = refl
cmp_token_one cmp.Ne cmp.Lt e = absurd cc
cmp_token_one cmp.Ne cmp.Le e = absurd cc
cmp_token_one cmp.Ne cmp.Gt e = absurd cc
cmp_token_one cmp.Ne cmp.Ge e = absurd cc
cmp_token_one cmp.Lt cmp.Eq e = absurd cc
cmp_token_one cmp.Lt cmp.Ne e = absurd cc
cmp_token_one cmp.Lt cmp.Lt e = refl
cmp_token_one cmp.Lt cmp.Le e = absurd cc
cmp_token_one cmp.Lt cmp.Gt e = absurd cc
cmp_token_one cmp.Lt cmp.Ge e = absurd cc
cmp_token_one cmp.Le cmp.Eq e = absurd cc
cmp_token_one cmp.Le cmp.Ne e = absurd cc
cmp_token_one cmp.Le cmp.Lt e = absurd cc
cmp_token_one cmp.Le cmp.Le e = refl
cmp_token_one cmp.Le cmp.Gt e = absurd cc
cmp_token_one cmp.Le cmp.Ge e = absurd cc
cmp_token_one cmp.Gt cmp.Eq e = absurd cc
cmp_token_one cmp.Gt cmp.Ne e = absurd cc
cmp_token_one cmp.Gt cmp.Lt e = absurd cc
cmp_token_one cmp.Gt cmp.Le e = absurd cc
cmp_token_one cmp.Gt cmp.Gt e = refl
cmp_token_one cmp.Gt cmp.Ge e = absurd cc
cmp_token_one cmp.Ge cmp.Eq e = absurd cc
cmp_token_one cmp.Ge cmp.Ne e = absurd cc
cmp_token_one cmp.Ge cmp.Lt e = absurd cc
cmp_token_one cmp.Ge cmp.Le e = absurd cc
cmp_token_one cmp.Ge cmp.Gt e = absurd cc
cmp_token_one cmp.Ge cmp.Ge e = refl

pub truth_token_at : (v : Bool) (x : Option Token) → kind_at x ≡ kind_of (truth_token v) → x ≡ Some (truth_token v)
truth_token_at true x e = word_at x _ e
truth_token_at false x e = word_at x _ e

pub truth_token_one : (v u : Bool) → truth_token u ≡ truth_token v → u ≡ v
truth_token_one true true e = refl
truth_token_one true false e = absurd cc
truth_token_one false true e = absurd cc
truth_token_one false false e = refl

pub value_token_at : (v : ValueWord) (x : Option Token) → kind_at x ≡ kind_of (value_token v) → x ≡ Some (value_token v)
value_token_at value.Id x e = word_at x _ e
value_token_at value.Start x e = word_at x _ e
value_token_at value.Value x e = word_at x _ e
value_token_at value.Gathered x e = word_at x _ e
value_token_at value.Count x e = word_at x _ e
value_token_at value.Outdeg x e = word_at x _ e

pub value_token_one : (v u : ValueWord) → value_token u ≡ value_token v → u ≡ v
value_token_one value.Id value.Id e = refl
value_token_one value.Id value.Start e = absurd cc
value_token_one value.Id value.Value e = absurd cc
value_token_one value.Id value.Gathered e = absurd cc
value_token_one value.Id value.Count e = absurd cc
value_token_one value.Id value.Outdeg e = absurd cc
value_token_one value.Start value.Id e = absurd cc
value_token_one value.Start value.Start e = refl
value_token_one value.Start value.Value e = absurd cc
value_token_one value.Start value.Gathered e = absurd cc
value_token_one value.Start value.Count e = absurd cc
value_token_one value.Start value.Outdeg e = absurd cc
value_token_one value.Value value.Id e = absurd cc
value_token_one value.Value value.Start e = absurd cc
value_token_one value.Value value.Value e = refl
value_token_one value.Value value.Gathered e = absurd cc
value_token_one value.Value value.Count e = absurd cc
value_token_one value.Value value.Outdeg e = absurd cc
value_token_one value.Gathered value.Id e = absurd cc
value_token_one value.Gathered value.Start e = absurd cc
value_token_one value.Gathered value.Value e = absurd cc
value_token_one value.Gathered value.Gathered e = refl
value_token_one value.Gathered value.Count e = absurd cc
value_token_one value.Gathered value.Outdeg e = absurd cc
value_token_one value.Count value.Id e = absurd cc
value_token_one value.Count value.Start e = absurd cc
value_token_one value.Count value.Value e = absurd cc
value_token_one value.Count value.Gathered e = absurd cc
value_token_one value.Count value.Count e = refl
value_token_one value.Count value.Outdeg e = absurd cc
value_token_one value.Outdeg value.Id e = absurd cc
value_token_one value.Outdeg value.Start e = absurd cc
value_token_one value.Outdeg value.Value e = absurd cc
value_token_one value.Outdeg value.Gathered e = absurd cc
value_token_one value.Outdeg value.Count e = absurd cc
value_token_one value.Outdeg value.Outdeg e = refl

pub term_token_at : (v : Bool) (x : Option Token) → kind_at x ≡ kind_of (term_token v) → x ≡ Some (term_token v)
term_token_at true x e = sign_at x _ e
term_token_at false x e = sign_at x _ e

pub term_token_one : (v u : Bool) → term_token u ≡ term_token v → u ≡ v
term_token_one true true e = refl
term_token_one true false e = absurd cc
term_token_one false true e = absurd cc
term_token_one false false e = refl

pub factor_token_at : (v : Bool) (x : Option Token) → kind_at x ≡ kind_of (factor_token v) → x ≡ Some (factor_token v)
factor_token_at true x e = sign_at x _ e
factor_token_at false x e = sign_at x _ e

pub factor_token_one : (v u : Bool) → factor_token u ≡ factor_token v → u ≡ v
factor_token_one true true e = refl
factor_token_one true false e = absurd cc
factor_token_one false true e = absurd cc
factor_token_one false false e = refl

pub extreme_token_at : (v : Bool) (x : Option Token) → kind_at x ≡ kind_of (extreme_token v) → x ≡ Some (extreme_token v)
extreme_token_at true x e = word_at x _ e
extreme_token_at false x e = word_at x _ e

pub extreme_token_one : (v u : Bool) → extreme_token u ≡ extreme_token v → u ≡ v
extreme_token_one true true e = refl
extreme_token_one true false e = absurd cc
extreme_token_one false true e = absurd cc
extreme_token_one false false e = refl

pub along_token_at : (v : Along) (x : Option Token) → kind_at x ≡ kind_of (along_token v) → x ≡ Some (along_token v)
along_token_at along.Out x e = word_at x _ e
along_token_at along.In x e = word_at x _ e
along_token_at along.Both x e = word_at x _ e

pub along_token_one : (v u : Along) → along_token u ≡ along_token v → u ≡ v
along_token_one along.Out along.Out e = refl
along_token_one along.Out along.In e = absurd cc
along_token_one along.Out along.Both e = absurd cc
along_token_one along.In along.Out e = absurd cc
along_token_one along.In along.In e = refl
along_token_one along.In along.Both e = absurd cc
along_token_one along.Both along.Out e = absurd cc
along_token_one along.Both along.In e = absurd cc
along_token_one along.Both along.Both e = refl

pub gather_token_at : (v : Gather) (x : Option Token) → kind_at x ≡ kind_of (gather_token v) → x ≡ Some (gather_token v)
gather_token_at gather.Min x e = word_at x _ e
gather_token_at gather.Max x e = word_at x _ e
gather_token_at gather.Sum x e = word_at x _ e
gather_token_at gather.Count x e = word_at x _ e

pub gather_token_one : (v u : Gather) → gather_token u ≡ gather_token v → u ≡ v
gather_token_one gather.Min gather.Min e = refl
gather_token_one gather.Min gather.Max e = absurd cc
gather_token_one gather.Min gather.Sum e = absurd cc
gather_token_one gather.Min gather.Count e = absurd cc
gather_token_one gather.Max gather.Min e = absurd cc
gather_token_one gather.Max gather.Max e = refl
gather_token_one gather.Max gather.Sum e = absurd cc
gather_token_one gather.Max gather.Count e = absurd cc
gather_token_one gather.Sum gather.Min e = absurd cc
gather_token_one gather.Sum gather.Max e = absurd cc
gather_token_one gather.Sum gather.Sum e = refl
gather_token_one gather.Sum gather.Count e = absurd cc
gather_token_one gather.Count gather.Min e = absurd cc
gather_token_one gather.Count gather.Max e = absurd cc
gather_token_one gather.Count gather.Sum e = absurd cc
gather_token_one gather.Count gather.Count e = refl

pub order_token_at : (v : OrderWord) (x : Option Token) → kind_at x ≡ kind_of (order_token v) → x ≡ Some (order_token v)
order_token_at order.Greedy x e = word_at x _ e
order_token_at order.Declared x e = word_at x _ e
order_token_at order.Tree x e = word_at x _ e

pub order_token_one : (v u : OrderWord) → order_token u ≡ order_token v → u ≡ v
order_token_one order.Greedy order.Greedy e = refl
order_token_one order.Greedy order.Declared e = absurd cc
order_token_one order.Greedy order.Tree e = absurd cc
order_token_one order.Declared order.Greedy e = absurd cc
order_token_one order.Declared order.Declared e = refl
order_token_one order.Declared order.Tree e = absurd cc
order_token_one order.Tree order.Greedy e = absurd cc
order_token_one order.Tree order.Declared e = absurd cc
order_token_one order.Tree order.Tree e = refl

pub within_token_at : (v : Bool) (x : Option Token) → kind_at x ≡ kind_of (within_token v) → x ≡ Some (within_token v)
within_token_at true x e = word_at x _ e
within_token_at false x e = word_at x _ e

pub within_token_one : (v u : Bool) → within_token u ≡ within_token v → u ≡ v
within_token_one true true e = refl
within_token_one true false e = absurd cc
within_token_one false true e = absurd cc
within_token_one false false e = refl
