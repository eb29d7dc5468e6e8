-- How characters spell tokens.
use Rattle.std.specs.Prelude.{◌≡◌, ◌≢◌, ℕ, ◌<◌, ◌^◌, Bool, true, false, ◌==◌, if◌then◌else◌, List, [], ◌∷◌, ◌++◌, codes}
use Rattle.std.specs.List.{list_all}
use Rattle.std.specs.Str.Parse.{digits_value}
use Rattle.gvdl_tokens.specs.declared.token.Token.{Token}
use Rattle.gvdl_tokens.specs.declared.token.Token.TheVariants as t
use Rattle.gvdl_tokens.specs.declared.word.Word.{Word}
use Rattle.gvdl_tokens.specs.declared.word.Word.TheVariants as word
use Rattle.gvdl_tokens.specs.declared.token.Sign.{Sign}
use Rattle.gvdl_tokens.specs.declared.token.Sign.TheVariants as sign
use Rattle.gvdl_tokens.specs.Characters.{is_digit, begins_name, in_name}

abbrev pub word_spelling : Word → List ℕ
word_spelling word.Load = codes "load"
word_spelling word.Graph = codes "graph"
word_spelling word.Nodes = codes "nodes"
word_spelling word.Edges = codes "edges"
word_spelling word.Create = codes "create"
word_spelling word.View = codes "view"
word_spelling word.Collection = codes "collection"
word_spelling word.On = codes "on"
word_spelling word.Where = codes "where"
word_spelling word.Window = codes "window"
word_spelling word.From = codes "from"
word_spelling word.To = codes "to"
word_spelling word.Width = codes "width"
word_spelling word.Step = codes "step"
word_spelling word.Program = codes "program"
word_spelling word.Along = codes "along"
word_spelling word.Out = codes "out"
word_spelling word.In = codes "in"
word_spelling word.Both = codes "both"
word_spelling word.Start = codes "start"
word_spelling word.Send = codes "send"
word_spelling word.Gather = codes "gather"
word_spelling word.Update = codes "update"
word_spelling word.Min = codes "min"
word_spelling word.Max = codes "max"
word_spelling word.Sum = codes "sum"
word_spelling word.Count = codes "count"
word_spelling word.Run = codes "run"
word_spelling word.Within = codes "within"
word_spelling word.For = codes "for"
word_spelling word.Rounds = codes "rounds"
word_spelling word.Round = codes "round"
word_spelling word.Order = codes "order"
word_spelling word.Greedy = codes "greedy"
word_spelling word.Declared = codes "declared"
word_spelling word.Split = codes "split"
word_spelling word.None = codes "none"
word_spelling word.Every = codes "every"
word_spelling word.Auto = codes "auto"
word_spelling word.Keep = codes "keep"
word_spelling word.As = codes "as"
word_spelling word.Append = codes "append"
word_spelling word.Show = codes "show"
word_spelling word.Work = codes "work"
word_spelling word.And = codes "and"
word_spelling word.Or = codes "or"
word_spelling word.Not = codes "not"
word_spelling word.Is = codes "is"
word_spelling word.Absent = codes "absent"
word_spelling word.True = codes "true"
word_spelling word.False = codes "false"
word_spelling word.Src = codes "src"
word_spelling word.Dst = codes "dst"
word_spelling word.Id = codes "id"
word_spelling word.Value = codes "value"
word_spelling word.Gathered = codes "gathered"
word_spelling word.Outdeg = codes "outdeg"
word_spelling word.Edge = codes "edge"
word_spelling word.Node = codes "node"
word_spelling word.If = codes "if"
word_spelling word.Then = codes "then"
word_spelling word.Else = codes "else"
word_spelling word.Form = codes "form"
word_spelling word.Insert = codes "insert"
word_spelling word.Remove = codes "remove"
word_spelling word.Tree = codes "tree"
word_spelling word.Group = codes "group"
word_spelling word.By = codes "by"
word_spelling word.Aggregate = codes "aggregate"
word_spelling word.Phases = codes "phases"
word_spelling word.Changes = codes "changes"
word_spelling word.Replay = codes "replay"

abbrev pub sign_spelling : Sign → List ℕ
sign_spelling sign.Semicolon = codes ";"
sign_spelling sign.Comma = codes ","
sign_spelling sign.Colon = codes ":"
sign_spelling sign.Dot = codes "."
sign_spelling sign.Open = codes "("
sign_spelling sign.Close = codes ")"
sign_spelling sign.OpenBracket = codes "["
sign_spelling sign.CloseBracket = codes "]"
sign_spelling sign.OpenBrace = codes "{"
sign_spelling sign.CloseBrace = codes "}"
sign_spelling sign.Plus = codes "+"
sign_spelling sign.Minus = codes "-"
sign_spelling sign.Star = codes "*"
sign_spelling sign.Slash = codes "/"
sign_spelling sign.Equal = codes "="
sign_spelling sign.NotEqual = codes "!="
sign_spelling sign.Less = codes "<"
sign_spelling sign.AtMost = codes "<="
sign_spelling sign.Greater = codes ">"
sign_spelling sign.AtLeast = codes ">="

-- the shape of a name or of a reserved word
abbrev pub IsWordShaped : List ℕ → Type 0
IsWordShaped [] = ⊥
IsWordShaped (b ∷ bs) = (begins_name b ≡ true) × (list_all in_name bs ≡ true)

-- no word is spelled so
abbrev pub IsNotReserved : List ℕ → Type 0
IsNotReserved bytes = (w : Word) → bytes ≢ word_spelling w

abbrev pub IsName : List ℕ → Type 0
IsName bytes = IsWordShaped bytes × IsNotReserved bytes

-- a run of digits, of one or more
abbrev pub IsDigits : List ℕ → Type 0
IsDigits [] = ⊥
IsDigits (b ∷ bs) = (is_digit b ≡ true) × (list_all is_digit bs ≡ true)

-- the characters with each quote twice
abbrev pub doubled : ℕ → List ℕ → List ℕ
doubled quote [] = []
doubled quote (b ∷ bs) = if b == quote then b ∷ b ∷ doubled quote bs else b ∷ doubled quote bs

-- the characters between quotes
abbrev pub enclosed : ℕ → List ℕ → List ℕ
enclosed quote content = quote ∷ (doubled quote content ++ quote ∷ [])

-- the bytes spell this token
abbrev pub Spells : Token → List ℕ → Type 0
Spells (t.Name name) bytes = (bytes ≡ name) × IsName bytes
Spells (t.Quoted name) bytes = (bytes ≡ enclosed 34 name) × (name ≢ [])
Spells (t.Number n) bytes = IsDigits bytes × (n ≡ digits_value 10 bytes) × (n < 2 ^ 63)
Spells (t.Str s) bytes = bytes ≡ enclosed 39 s
Spells (t.Word w) bytes = bytes ≡ word_spelling w
Spells (t.Sign s) bytes = bytes ≡ sign_spelling s
Spells t.End bytes = ⊥

-- A token of this kind would go on with this byte. A quote after the closing quote doubles it.
abbrev pub goes_on : Token → ℕ → Bool
goes_on (t.Name name) b = in_name b
goes_on (t.Quoted name) b = b == 34
goes_on (t.Number n) b = is_digit b
goes_on (t.Str s) b = b == 39
goes_on (t.Word w) b = in_name b
goes_on (t.Sign sign.Less) b = b == 61
goes_on (t.Sign sign.Greater) b = b == 61
goes_on (t.Sign s) b = false
goes_on t.End b = false
