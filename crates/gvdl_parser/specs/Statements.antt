-- The grammar of statements and scripts.
use Rattle.std.specs.Prelude.{ℕ, Bool, true, false, List, [], Option, Some, None}
use Rattle.phrase_theory.specs.Phrases.{◌>>=◌, ◌>>◌, ◌∣◌, one, pure, many, separated, optional}
use Rattle.gvdl_tokens.specs.declared.token.Token.{Token}
use Rattle.gvdl_tokens.specs.declared.token.Token.TheVariants as t
use Rattle.gvdl_tokens.specs.declared.token.Kind.TheVariants as kind
use Rattle.gvdl_tokens.specs.declared.token.Sign.TheVariants as s
use Rattle.gvdl_tokens.specs.declared.word.Word.{Word}
use Rattle.gvdl_tokens.specs.declared.word.Word.TheVariants as w
use Rattle.gvdl_tree.specs.declared.script.Arg.{Arg}
use Rattle.gvdl_tree.specs.declared.script.Arg.TheVariants as arg
use Rattle.gvdl_tree.specs.declared.script.Call.{Call}
use Rattle.gvdl_tree.specs.declared.script.Item.{Item}
use Rattle.gvdl_tree.specs.declared.script.ItemBody.{ItemBody}
use Rattle.gvdl_tree.specs.declared.script.ItemBody.TheVariants as body
use Rattle.gvdl_tree.specs.declared.script.OrderWord.{OrderWord}
use Rattle.gvdl_tree.specs.declared.script.SplitWord.{SplitWord}
use Rattle.gvdl_tree.specs.declared.script.SplitWord.TheVariants as split
use Rattle.gvdl_tree.specs.declared.script.Statement.{Statement}
use Rattle.gvdl_tree.specs.declared.script.Statement.TheVariants as statement
use Rattle.gvdl_tree.specs.declared.script.Script.{Script}
use Rattle.gvdl_parser.specs.declared.run.RunOptions.{RunOptions}
use Rattle.gvdl_parser.specs.Kinds.{comes}
use Rattle.gvdl_parser.specs.Terminals.{keyword, mark, int, prop, along_token, gather_token, order_token, within_token}
use Rattle.gvdl_parser.specs.Predicates.{predicate}
use Rattle.gvdl_parser.specs.Expressions.{expression}

-- a word, and a phrase behind it
unfoldable pub behind : {A : Type 0} → Word → (List Token → A → Type 0) → List Token → A → Type 0
behind w L = do keyword w; a ← L; pure a

-- a word, a phrase and a semicolon
unfoldable pub part : {A : Type 0} → Word → (List Token → A → Type 0) → List Token → A → Type 0
part w L = do keyword w; a ← L; mark s.Semicolon; pure a

-- ")" | phrase { "," phrase } ")"
unfoldable pub listed_behind : {A : Type 0} → (List Token → A → Type 0) → List Token → List A → Type 0
listed_behind L = (do mark s.Close; pure []) ∣ (do xs ← separated (t.Sign s.Comma) L; mark s.Close; pure xs)

-- "(" [ phrase { "," phrase } ] ")"
unfoldable pub parentheses : {A : Type 0} → (List Token → A → Type 0) → List Token → List A → Type 0
parentheses L = do mark s.Open; xs ← listed_behind L; pure xs

-- [ "(" [ phrase { "," phrase } ] ")" ]
unfoldable pub listed : {A : Type 0} → (List Token → A → Type 0) → List Token → List A → Type 0
listed L = parentheses L ∣ pure []

-- ---- load

-- load = "load" "graph" name "nodes" string "edges" string ";"
unfoldable pub load : List Token → List ℕ × List ℕ × List ℕ → Type 0
load = do
  keyword w.Load
  graph ← behind w.Graph (one t.Name)
  nodes ← behind w.Nodes (one t.Str)
  edges ← behind w.Edges (one t.Str)
  mark s.Semicolon
  pure (graph, nodes, edges)

-- ---- views

-- window = "window" prop "from" int "to" int "width" number "step" number
unfoldable pub window : List Token → ItemBody → Type 0
window = do
  p ← behind w.Window prop
  keyword w.From
  first ← int
  keyword w.To
  last ← int
  width ← behind w.Width (one t.Number)
  step ← behind w.Step (one t.Number)
  pure (body.Window p first last width step)

unfoldable pub rule : ℕ → List Token → ItemBody → Type 0
rule n = do p ← predicate n; pure (body.Rule p)

unfoldable pub item_body : ℕ → List Token → ItemBody → Type 0
item_body n = window ∣ rule n

-- item = "[" name ":" ( window | pred ) "]"
unfoldable pub item : ℕ → List Token → Item → Type 0
item n = do
  mark s.OpenBracket
  name ← one t.Name
  mark s.Colon
  b ← item_body n
  mark s.CloseBracket
  pure (record { name = name; body = b })

-- items = item { "," item }
unfoldable pub items : ℕ → List Token → List Item → Type 0
items n = separated (t.Sign s.Comma) (item n)

-- collection = "collection" name "on" name items, and the semicolon behind it
unfoldable pub collection : ℕ → List Token → Statement → Type 0
collection n = do
  name ← behind w.Collection (one t.Name)
  base ← behind w.On (one t.Name)
  is ← items n
  mark s.Semicolon
  pure (statement.Collection name base is)

-- single = name "on" name "edges" "where" pred, and the semicolon behind it
unfoldable pub single : ℕ → List Token → Statement → Type 0
single n = do
  name ← one t.Name
  base ← behind w.On (one t.Name)
  keyword w.Edges
  keyword w.Where
  p ← predicate n
  mark s.Semicolon
  pure (statement.View name base p)

unfoldable pub made : ℕ → List Token → Statement → Type 0
made n = collection n ∣ single n

-- create = "create" "view" ( collection | single ) ";"
unfoldable pub create : ℕ → List Token → Statement → Type 0
create n = do keyword w.Create; keyword w.View; made_ ← made n; pure made_

-- append = "append" "to" name items ";"
unfoldable pub append : ℕ → List Token → Statement → Type 0
append n = do
  keyword w.Append
  target ← behind w.To (one t.Name)
  is ← items n
  mark s.Semicolon
  pure (statement.Append target is)

-- ---- show

-- show = "show" ( "order" name | "work" name | "tree" name ) ";"
unfoldable pub show_order : List Token → Statement → Type 0
show_order = do name ← part w.Order (one t.Name); pure (statement.ShowOrder name)

unfoldable pub show_work : List Token → Statement → Type 0
show_work = do name ← part w.Work (one t.Name); pure (statement.ShowWork name)

unfoldable pub show_tree : List Token → Statement → Type 0
show_tree = do name ← part w.Tree (one t.Name); pure (statement.ShowTree name)

unfoldable pub shown : List Token → Statement → Type 0
shown = show_order ∣ show_work ∣ show_tree

unfoldable pub show : List Token → Statement → Type 0
show = do keyword w.Show; what ← shown; pure what

-- ---- run

-- arg = int | prop
unfoldable pub number_arg : List Token → Arg → Type 0
number_arg = do n ← int; pure (arg.Number n)

unfoldable pub prop_arg : List Token → Arg → Type 0
prop_arg = do p ← prop; pure (arg.Prop p)

unfoldable pub arg_phrase : List Token → Arg → Type 0
arg_phrase = number_arg ∣ prop_arg

-- call = name [ "(" [ arg { "," arg } ] ")" ]
unfoldable pub call : List Token → Call → Type 0
call = do
  name ← one t.Name
  args ← listed arg_phrase
  pure (record { name = name; args = args })

-- "rounds" | "round"
unfoldable pub rounds_word : List Token → Unit {0} → Type 0
rounds_word = keyword w.Rounds ∣ keyword w.Round

-- "none" | "every" number | "auto"
unfoldable pub split_none : List Token → SplitWord → Type 0
split_none = do keyword w.None; pure split.Whole

unfoldable pub split_every : List Token → SplitWord → Type 0
split_every = do n ← behind w.Every (one t.Number); pure (split.Every n)

unfoldable pub split_auto : List Token → SplitWord → Type 0
split_auto = do keyword w.Auto; pure split.Auto

unfoldable pub split_word : List Token → SplitWord → Type 0
split_word = split_none ∣ split_every ∣ split_auto

unfoldable pub order_part : List Token → Option OrderWord → Type 0
order_part = optional (behind w.Order (one order_token))

unfoldable pub split_part : List Token → Option SplitWord → Type 0
split_part = optional (behind w.Split split_word)

unfoldable pub keep_part : List Token → Option (List ℕ) → Type 0
keep_part = optional (do keyword w.Keep; name ← behind w.As (one t.Name); pure name)

-- [ "order" ( "greedy" | "declared" | "tree" ) ] [ "split" ( "none" | "every" number | "auto" ) ] [ "keep" "as" name ] ";"
unfoldable pub unphased : List Token → RunOptions → Type 0
unphased = do
  o ← order_part
  d ← split_part
  k ← keep_part
  mark s.Semicolon
  pure (record { order = o; split = d; keep = k; phases = None })

-- "phases" number ";"
unfoldable pub phased : List Token → RunOptions → Type 0
phased = do m ← part w.Phases (one t.Number); pure (record { order = None; split = None; keep = None; phases = Some m })

-- what stands behind the rounds: only `within` some has phases
unfoldable pub run_options : Bool → List Token → RunOptions → Type 0
run_options true = phased ∣ unphased
run_options false = unphased

-- run = "run" call "on" name ( "within" | "for" ) number ( "rounds" | "round" )
--     [ "order" ( "greedy" | "declared" | "tree" ) ] [ "split" ( "none" | "every" number | "auto" ) ] [ "keep" "as" name ] ";"
--   | "run" call "on" name "within" number ( "rounds" | "round" ) "phases" number ";"
unfoldable pub run : List Token → Statement → Type 0
run = do
  keyword w.Run
  c ← call
  keyword w.On
  target ← one t.Name
  within ← one within_token
  number ← one t.Number
  rounds_word
  options ← run_options within
  pure (statement.Run c target within number options.order options.split options.keep options.phases)

-- ---- program

-- program = "program" name [ "(" [ name { "," name } ] ")" ] "{" "along" ( "out" | "in" | "both" ) ";" "start" expr ";" "send" expr ";"
--     "gather" ( "min" | "max" | "sum" | "count" ) ";" "update" expr ";" "}"
unfoldable pub program : ℕ → List Token → Statement → Type 0
program n = do
  name ← behind w.Program (one t.Name)
  params ← listed (one t.Name)
  mark s.OpenBrace
  a ← part w.Along (one along_token)
  start ← part w.Start (expression n)
  send ← part w.Send (expression n)
  g ← part w.Gather (one gather_token)
  update ← part w.Update (expression n)
  mark s.CloseBrace
  pure (statement.Program name params a start send g update)

-- ---- edges that come and go

-- insert = "insert" "edges" string ";"
unfoldable pub insert : List Token → Statement → Type 0
insert = do keyword w.Insert; file ← part w.Edges (one t.Str); pure (statement.Insert file)

-- remove = "remove" "edges" "where" pred ";"
unfoldable pub remove : ℕ → List Token → Statement → Type 0
remove n = do
  keyword w.Remove
  keyword w.Edges
  keyword w.Where
  p ← predicate n
  mark s.Semicolon
  pure (statement.Remove p)

-- ---- aggregates

unfoldable pub sum_part : List Token → Option (List ℕ) → Type 0
sum_part = optional (behind w.Sum prop)

-- aggregate = "aggregate" name "group" "by" prop [ "sum" prop ] ";"
unfoldable pub aggregate : List Token → Statement → Type 0
aggregate = do
  target ← behind w.Aggregate (one t.Name)
  keyword w.Group
  by ← behind w.By prop
  sum ← sum_part
  mark s.Semicolon
  pure (statement.Aggregate target by sum)

-- ---- scripts

-- the statements that only form 2 has
unfoldable pub second_form : ℕ → List Token → Statement → Type 0
second_form n = insert ∣ remove n ∣ aggregate

-- statement = create | program | run | append | show | insert | remove | aggregate
unfoldable pub statement_phrase : ℕ → List Token → Statement → Type 0
statement_phrase n = create n ∣ program n ∣ run ∣ append n ∣ show ∣ second_form n

-- [ "form" number ";" ]
unfoldable pub form_part : List Token → Option ℕ → Type 0
form_part = optional (part w.Form (one t.Number))

-- load { statement }, of a script in this form
unfoldable pub script_behind : ℕ → Option ℕ → List Token → Script → Type 0
script_behind n form = do
  loaded ← load
  statements ← many (statement_phrase n)
  pure (record { form = form; graph = loaded.0; nodes = loaded.1; edges = loaded.2; statements = statements })

-- script = [ "form" number ";" ] load { statement }, with at most this number of levels open at once
unfoldable pub script : ℕ → List Token → Script → Type 0
script n = form_part >>= script_behind n

-- ---- tokens that a phrase goes on with

abbrev pub after_items : Option Token → Bool
after_items x = comes (kind.Sign s.Comma) x

abbrev pub after_listed : Option Token → Bool
after_listed x = comes (kind.Sign s.Open) x

abbrev pub after_order : Option Token → Bool
after_order x = comes (kind.Word w.Order) x

abbrev pub after_split : Option Token → Bool
after_split x = comes (kind.Word w.Split) x

abbrev pub after_keep : Option Token → Bool
after_keep x = comes (kind.Word w.Keep) x

abbrev pub after_summed : Option Token → Bool
after_summed x = comes (kind.Word w.Sum) x

abbrev pub after_form : Option Token → Bool
after_form x = comes (kind.Word w.Form) x

-- any token at all
abbrev pub after_script : Option Token → Bool
after_script None = false
after_script (Some token) = true
