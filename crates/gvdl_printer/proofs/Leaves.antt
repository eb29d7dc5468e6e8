-- What is written in place of what opens no level in an expression.
use Rattle.std.proofs.Common.{◌∙◌, ℕ, List, [], ◌∷◌, ap, inl, inr}
use Rattle.gvdl_tokens.specs.declared.token.Token.{Token}
use Rattle.gvdl_tokens.specs.declared.token.Token.TheVariants as t
use Rattle.gvdl_tokens.specs.declared.token.Sign.TheVariants as s
use Rattle.gvdl_tokens.specs.declared.word.Word.TheVariants as w
use Rattle.gvdl_tree.specs.declared.expression.ExprTree.{ExprTree}
use Rattle.phrase_theory.specs.Phrases.{Either}
use Rattle.gvdl_parser.specs.Terminals.{value_token}
use Rattle.gvdl_parser.specs.Expressions.{number_leaf, nil_leaf, word_leaf, edge_leaf, node_leaf, param_leaf, leaf}
use Rattle.gvdl_printer.specs.Layout.{tokens}
use Rattle.gvdl_printer.specs.Canonical.{expression_pieces}
use Rattle.gvdl_printer.proofs.Equations.{expression-Number, expression-Nil, expression-Word, expression-EdgeProp, expression-NodeProp, expression-Param}
use Rattle.gvdl_printer.proofs.Better.{pure_is, word_is, one_is, step, left, right}
use Rattle.gvdl_printer.proofs.Atoms.{IsPlain, prop_token, prop_is}

abbrev pub spelt : ℕ → ExprTree → List Token
spelt k a = tokens (expression_pieces a k)

abbrev ArePlain : (List Token → ExprTree → Type 0) → Type 0
ArePlain L = (ts : List Token) (a : ExprTree) → L ts a → IsPlain spelt L ts a

number_plain : ArePlain number_leaf
unfolding number_leaf
number_plain ts a h = record { made = t.Number h.tree ∷ []; at = λ k. ap (spelt k) h.second.1 ∙ ap tokens (expression-Number h.tree k); better = step h (one_is h.first) (pure_is h.second) }

nil_plain : ArePlain nil_leaf
unfolding nil_leaf
nil_plain ts a h = record { made = t.Word w.None ∷ []; at = λ k. ap (spelt k) h.second.1 ∙ ap tokens (expression-Nil k); better = step h (word_is h.first) (pure_is h.second) }

word_plain : ArePlain word_leaf
unfolding word_leaf
word_plain ts a h = record { made = value_token h.tree ∷ []; at = λ k. ap (spelt k) h.second.1 ∙ ap tokens (expression-Word h.tree k); better = step h (one_is h.first) (pure_is h.second) }

edge_plain : ArePlain edge_leaf
unfolding edge_leaf
edge_plain ts a h = let k = h.second in let l = k.second in record {
  made = t.Word w.Edge ∷ t.Sign s.Dot ∷ prop_token l.tree ∷ [];
  at = λ j. ap (spelt j) l.second.1 ∙ ap tokens (expression-EdgeProp l.tree j);
  better = step h (word_is h.first) (step k (word_is k.first) (step l (prop_is l.front l.tree l.first) (pure_is l.second)));
}

node_plain : ArePlain node_leaf
unfolding node_leaf
node_plain ts a h = let k = h.second in let l = k.second in record {
  made = t.Word w.Node ∷ t.Sign s.Dot ∷ prop_token l.tree ∷ [];
  at = λ j. ap (spelt j) l.second.1 ∙ ap tokens (expression-NodeProp l.tree j);
  better = step h (word_is h.first) (step k (word_is k.first) (step l (prop_is l.front l.tree l.first) (pure_is l.second)));
}

param_plain : ArePlain param_leaf
unfolding param_leaf
param_plain ts a h = record { made = t.Name h.tree ∷ []; at = λ k. ap (spelt k) h.second.1 ∙ ap tokens (expression-Param h.tree k); better = step h (one_is h.first) (pure_is h.second) }

plain_either : {L M : List Token → ExprTree → Type 0} → ArePlain L → ArePlain M → ArePlain (Either L M)
plain_either g h ts a q = elim q.which [
  | inl p ↦ let x = g ts a p in record { made = x.made; at = x.at; better = left x.better }
  | inr p ↦ let x = h ts a p in record { made = x.made; at = x.at; better = right x.better }
]

pub leaf_is : ArePlain leaf
unfolding leaf
leaf_is = plain_either number_plain (plain_either nil_plain (plain_either word_plain (plain_either edge_plain (plain_either node_plain param_plain))))
