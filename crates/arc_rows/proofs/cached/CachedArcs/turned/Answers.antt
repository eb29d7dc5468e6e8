use Rattle.std.proofs.Common.{◌≡◌, ◌∙◌, Bool, List, true, false, length, get_or, sym, subst, refl}
use Rattle.std.specs.Prelude.{All, IfSome}
use Rattle.arc_rows.specs.declared.cached.Listed.{Listed}
use Rattle.arc_rows.specs.Counts.{AreCounted}
use Rattle.arc_rows.specs.Links.{link_of, tail_of}
use Rattle.arc_rows.specs.Listings.{AreLinks, AreTails, IsListed}
use Rattle.arc_rows.proofs.Renewing.{turned-live}
use Rattle.arc_rows.proofs.cached.CachedArcs.turned.Goals as goal

pub returns-in-Tails-clause-listed : goal.returns-in-Tails-clause-listed
returns-in-Tails-clause-listed c =
    let graph = c.args.views.now.graph.now in
    let all = c.args.views.now.rows.now.by_head in
    let same : c.args.self.edges.items ≡ c.args.views.now.old.now = sym c.deref.ensures.value ∙ c.if-not-is_same.ensures refl in
    let was : AreTails graph all c.args.views.now.old.now c.in-Tails.tails = subst (λ (bs : List Bool). AreTails graph all bs c.in-Tails.tails) same (subst (λ (l : Listed). IsListed graph all c.args.self.edges.items l) c.in-Tails.is c.requires.cached.listed) in
    turned-live tail_of all c.args.views.now.old.now c.args.views.now.new.now (length graph.ids) c.args.views.now.arcs.now c.deref-in-Tails.result.now c.requires.views.all_arcs
    (subst (λ (bs : List Bool). All (λ a. get_or bs a.head.0 false ≡ true) c.args.views.now.arcs.now) (sym c.deref-in-Tails.ensures.value) c.in_ok-heads.ensures.heads)
    c.in-Tails.tails c.renew_tails.new.live was c.renew_tails.ensures

pub returns-clause-listed : goal.returns-clause-listed
returns-clause-listed c =
    let graph = c.args.views.now.graph.now in
    let all = c.args.views.now.rows.now.by_head in
    let column = c.in-Links.column in
    let same : c.args.self.edges.items ≡ c.args.views.now.old.now = sym c.deref.ensures.value ∙ c.if-not-is_same.ensures refl in
    let was : AreLinks graph all c.args.views.now.old.now column c.in-Links.links = subst (λ (bs : List Bool). AreLinks graph all bs column c.in-Links.links) same (subst (λ (l : Listed). IsListed graph all c.args.self.edges.items l) c.in-Links.is c.requires.cached.listed) in
    record {
      rows = turned-live (link_of graph column) all c.args.views.now.old.now c.args.views.now.new.now (length graph.ids) c.args.views.now.arcs.now c.deref-in-Links.result.now c.requires.views.all_arcs
          (subst (λ (bs : List Bool). All (λ a. get_or bs a.head.0 false ≡ true) c.args.views.now.arcs.now) (sym c.deref-in-Links.ensures.value) c.in_ok-heads.ensures.heads)
          c.in-Links.links c.renew_links.new.live was.rows c.renew_links.ensures;
      proper = was.proper;
    }

pub returns-in-Nothing-clause-counted : goal.returns-in-Nothing-clause-counted
returns-in-Nothing-clause-counted c =
    let same : c.args.self.edges.items ≡ c.args.views.now.old.now = sym c.deref.ensures.value ∙ c.if-not-is_same.ensures refl in
    subst (λ (bs : List Bool). IfSome c.args.self.degrees (λ d. AreCounted c.args.views.now.graph.now c.args.views.now.rows.now.by_head bs d.items)) same c.requires.cached.counted

pub returns-in-Tails-clause-counted : goal.returns-in-Tails-clause-counted
returns-in-Tails-clause-counted c =
    let same : c.args.self.edges.items ≡ c.args.views.now.old.now = sym c.deref.ensures.value ∙ c.if-not-is_same.ensures refl in
    subst (λ (bs : List Bool). IfSome c.args.self.degrees (λ d. AreCounted c.args.views.now.graph.now c.args.views.now.rows.now.by_head bs d.items)) same c.requires.cached.counted

pub returns-clause-counted : goal.returns-clause-counted
returns-clause-counted c =
    let same : c.args.self.edges.items ≡ c.args.views.now.old.now = sym c.deref.ensures.value ∙ c.if-not-is_same.ensures refl in
    subst (λ (bs : List Bool). IfSome c.args.self.degrees (λ d. AreCounted c.args.views.now.graph.now c.args.views.now.rows.now.by_head bs d.items)) same c.requires.cached.counted
