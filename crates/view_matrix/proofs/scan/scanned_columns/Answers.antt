-- One column more.
use Rattle.std.proofs.Common.{◌∙◌, ◌+◌, ◌/◌, ◌<◌, ◌++◌, ◌∷◌, [], ℕ, List, length, map, get_or, ap, sym, arith}
use Rattle.std.specs.List.{range_with_len}
use Rattle.std.proofs.lemmas.List.{length_push, take_all}
use Rattle.std.proofs.lemmas.Iterator.Adapters.{YieldsList-from_vec}
use Rattle.std.proofs.lemmas.Iterator.Consumers.{YieldsList-turn, YieldsList-end}
use Rattle.view_matrix.specs.declared.scan.Scan.{Scan}
use Rattle.view_matrix.specs.Columns.{bit_in}
use Rattle.view_matrix.specs.Matrices.{rule_column}
use Rattle.view_matrix.specs.Scans.{HasWords}
use Rattle.view_matrix.proofs.ScannedWords.{bits_behind, columns_more, has_words, some_of, whole_column, within_scans}
use Rattle.view_matrix.proofs.scan.scanned_columns.Goals as goal

pub of_words-requires-clause-count : goal.of_words-requires-clause-count
of_words-requires-clause-count c =
    let g = c.args.graph.now in
    let scans : List Scan = c.args.scans.now in
    let all = c.in_ok-words-items.words-items.items in
    let k = (length g.ends + 63) / 64 in
    let j : ℕ = length c.loop-words.yielded in
    let gives = c.into_iter-words-iterator.ensures.into_iter_gives in
    let road = YieldsList-from_vec {s = c.into_iter-words-iterator.result} all gives.0 (gives.1 ∙ c.in_ok-words-items.words-items.ok.0) in
    let t = YieldsList-turn road c.loop-words.yielded c.loop-words.words-iterator c.loop-words.yielded_by c.next.result c.next.new.self c.in-Some.words c.in-Some.is c.next.ensures.steps in
    let within : j < length scans = within_scans g k scans all j c.in_ok-words-items.ensures t.0 in
    let s : Scan = some_of scans j within in
    let has : HasWords g (get_or scans j s).rule.now k c.in-Some.words.items = has_words g k scans all j c.in-Some.words s c.in_ok-words-items.ensures t.0 t.1 in
    has.count ∙ ap (λ (n : ℕ). (n + 63) / 64) (sym c.edge_count-len.ensures.count)

pub of_words-requires-clause-behind : goal.of_words-requires-clause-behind
of_words-requires-clause-behind c =
    let g = c.args.graph.now in
    let scans : List Scan = c.args.scans.now in
    let all = c.in_ok-words-items.words-items.items in
    let k = (length g.ends + 63) / 64 in
    let j : ℕ = length c.loop-words.yielded in
    let gives = c.into_iter-words-iterator.ensures.into_iter_gives in
    let road = YieldsList-from_vec {s = c.into_iter-words-iterator.result} all gives.0 (gives.1 ∙ c.in_ok-words-items.words-items.ok.0) in
    let t = YieldsList-turn road c.loop-words.yielded c.loop-words.words-iterator c.loop-words.yielded_by c.next.result c.next.new.self c.in-Some.words c.in-Some.is c.next.ensures.steps in
    let within : j < length scans = within_scans g k scans all j c.in_ok-words-items.ensures t.0 in
    let s : Scan = some_of scans j within in
    let has : HasWords g (get_or scans j s).rule.now k c.in-Some.words.items = has_words g k scans all j c.in-Some.words s c.in_ok-words-items.ensures t.0 t.1 in
    λ e le. bits_behind g (get_or scans j s).rule.now k c.in-Some.words.items has e (omega (arith, le, c.edge_count-len.ensures.count))

pub loop-words-preserved : goal.loop-words-preserved
loop-words-preserved c =
    let g = c.args.graph.now in
    let scans : List Scan = c.args.scans.now in
    let all = c.in_ok-words-items.words-items.items in
    let k = (length g.ends + 63) / 64 in
    let j : ℕ = length c.loop-words.yielded in
    let gives = c.into_iter-words-iterator.ensures.into_iter_gives in
    let road = YieldsList-from_vec {s = c.into_iter-words-iterator.result} all gives.0 (gives.1 ∙ c.in_ok-words-items.words-items.ok.0) in
    let t = YieldsList-turn road c.loop-words.yielded c.loop-words.words-iterator c.loop-words.yielded_by c.next.result c.next.new.self c.in-Some.words c.in-Some.is c.next.ensures.steps in
    let within : j < length scans = within_scans g k scans all j c.in_ok-words-items.ensures t.0 in
    let s : Scan = some_of scans j within in
    let has : HasWords g (get_or scans j s).rule.now k c.in-Some.words.items = has_words g k scans all j c.in-Some.words s c.in_ok-words-items.ensures t.0 t.1 in
    columns_more g scans j (length (c.loop-words.yielded ++ c.in-Some.words ∷ [])) s c.loop-words.columns.items c.push.new.self.items c.of_words.result within (length_push c.loop-words.yielded c.in-Some.words) c.loop-words.invariant c.in_ok-push.ensures.items
    (c.of_words.ensures ∙ ap (λ (n : ℕ). map (bit_in c.in-Some.words.items) (range_with_len 0 n)) c.edge_count-len.ensures.count
    ∙ whole_column g (get_or scans j s).rule.now k c.in-Some.words.items has (omega arith))

pub returns : goal.returns
returns c =
    let g = c.args.graph.now in
    let scans : List Scan = c.args.scans.now in
    let all = c.in_ok-words-items.words-items.items in
    let k = (length g.ends + 63) / 64 in
    let j : ℕ = length c.loop-words.yielded in
    let gives = c.into_iter-words-iterator.ensures.into_iter_gives in
    let road = YieldsList-from_vec {s = c.into_iter-words-iterator.result} all gives.0 (gives.1 ∙ c.in_ok-words-items.words-items.ok.0) in
    let e = YieldsList-end road c.loop-words.yielded c.loop-words.words-iterator c.loop-words.yielded_by c.next.result c.next.new.self c.in-None.is c.next.ensures.steps in
    c.loop-words.invariant ∙ ap (map (λ (scan : Scan). rule_column g scan.rule.now)) (take_all (length c.loop-words.yielded) scans (omega (arith, e.1, c.in_ok-words-items.ensures.all)))
