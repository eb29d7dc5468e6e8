-- Kinds of tokens by number, so that two of them are told apart by computing.
use Rattle.std.specs.Prelude.{ℕ, Bool, ◌==◌, Option, Some, None}
use Rattle.gvdl_tokens.specs.declared.token.Token.{Token}
use Rattle.gvdl_tokens.specs.declared.token.Kind.{Kind}
use Rattle.gvdl_tokens.specs.declared.token.Kind.TheVariants as kind
use Rattle.gvdl_tokens.specs.declared.token.Sign.{Sign}
use Rattle.gvdl_tokens.specs.declared.token.Sign.TheVariants as s
use Rattle.gvdl_tokens.specs.declared.word.Word.{Word}
use Rattle.gvdl_tokens.specs.declared.word.Word.TheVariants as w
use Rattle.gvdl_tokens.specs.Tokens.{kind_of}

abbrev pub word_number : Word → ℕ
word_number w.Load = 100
word_number w.Graph = 101
word_number w.Nodes = 102
word_number w.Edges = 103
word_number w.Create = 104
word_number w.View = 105
word_number w.Collection = 106
word_number w.On = 107
word_number w.Where = 108
word_number w.Window = 109
word_number w.From = 110
word_number w.To = 111
word_number w.Width = 112
word_number w.Step = 113
word_number w.Program = 114
word_number w.Along = 115
word_number w.Out = 116
word_number w.In = 117
word_number w.Both = 118
word_number w.Start = 119
word_number w.Send = 120
word_number w.Gather = 121
word_number w.Update = 122
word_number w.Min = 123
word_number w.Max = 124
word_number w.Sum = 125
word_number w.Count = 126
word_number w.Run = 127
word_number w.Within = 128
word_number w.For = 129
word_number w.Rounds = 130
word_number w.Round = 131
word_number w.Order = 132
word_number w.Greedy = 133
word_number w.Declared = 134
word_number w.Split = 135
word_number w.None = 136
word_number w.Every = 137
word_number w.Auto = 138
word_number w.Keep = 139
word_number w.As = 140
word_number w.Append = 141
word_number w.Show = 142
word_number w.Work = 143
word_number w.And = 144
word_number w.Or = 145
word_number w.Not = 146
word_number w.Is = 147
word_number w.Absent = 148
word_number w.True = 149
word_number w.False = 150
word_number w.Src = 151
word_number w.Dst = 152
word_number w.Id = 153
word_number w.Value = 154
word_number w.Gathered = 155
word_number w.Outdeg = 156
word_number w.Edge = 157
word_number w.Node = 158
word_number w.If = 159
word_number w.Then = 160
word_number w.Else = 161
word_number w.Form = 162
word_number w.Insert = 163
word_number w.Remove = 164
word_number w.Tree = 165
word_number w.Group = 166
word_number w.By = 167
word_number w.Aggregate = 168
word_number w.Phases = 169
word_number w.Changes = 170
word_number w.Replay = 171

abbrev pub sign_number : Sign → ℕ
sign_number s.Semicolon = 10
sign_number s.Comma = 11
sign_number s.Colon = 12
sign_number s.Dot = 13
sign_number s.Open = 14
sign_number s.Close = 15
sign_number s.OpenBracket = 16
sign_number s.CloseBracket = 17
sign_number s.OpenBrace = 18
sign_number s.CloseBrace = 19
sign_number s.Plus = 20
sign_number s.Minus = 21
sign_number s.Star = 22
sign_number s.Slash = 23
sign_number s.Equal = 24
sign_number s.NotEqual = 25
sign_number s.Less = 26
sign_number s.AtMost = 27
sign_number s.Greater = 28
sign_number s.AtLeast = 29

abbrev pub kind_number : Kind → ℕ
kind_number kind.Name = 1
kind_number kind.Quoted = 2
kind_number kind.Number = 3
kind_number kind.Str = 4
kind_number (kind.Word w) = word_number w
kind_number (kind.Sign s) = sign_number s
kind_number kind.End = 0

-- the kind of the token that comes next, or End
abbrev pub kind_at : Option Token → Kind
kind_at None = kind.End
kind_at (Some token) = kind_of token

-- the number of the token that comes next
abbrev pub number_at : Option Token → ℕ
number_at token = kind_number (kind_at token)

-- whether a token of this kind comes next
abbrev pub comes : Kind → Option Token → Bool
comes k token = kind_number k == number_at token
