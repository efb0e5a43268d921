use Rattle.std.proofs.Common.{◌≡◌, ℕ, ◌∷◌, [], ◌++◌, length, Some, refl, sym, ap, ◌∙◌, arith, subst}
use Rattle.std.specs.Prelude.{slice_get}
use Rattle.std.proofs.lemmas.Option.{slice_get_read, slice_get_within}
use Rattle.sap_derive.specs.code.Listed.{IsListed}
use Rattle.sap_derive.specs.code.Needed.{IsLineOver, Writes, there, one_line}
use Rattle.sap_derive.specs.declared.clause.Clause.{Clause}
use Rattle.sap_derive.specs.declared.line.Line.{Line}
use Rattle.sap_derive.specs.declared.grounds.Grounds.TheVariants.{Given, By}
use Rattle.sap_derive.proofs.Options.{from-some, from-none, ok-both}
use Rattle.sap_derive.proofs.write.write_next.Goals as goal

pub returns-then-is_some-clause-ok : goal.returns-then-is_some-clause-ok
returns-then-is_some-clause-ok c =
    let l = from-some c.place.result (λ (k : ℕ). slice_get c.args.items.now k ≡ Some c.at-n.result) c.place.ensures.some (sym c.if-is_some.ensures) in
    there c.at-n.result c.at-n.ensures (l.0, l.1) refl refl

pub at-requires : goal.at-requires
at-requires c =
    let s = c.args.closure.now in
    let count = c.requires.closure.sound.count in
    let w : slice_get s.ways.items c.args.rank ≡ Some (By c.in-By.clause) = slice_get_read s.ways.items (length s.ways.items) c.args.rank c.index.result.now refl (omega (arith, count)) c.index.ensures ∙ ap Some c.in-By.is in
    let step = c.requires.closure.sound.steps c.args.rank c.in-By.clause w in
    slice_get_within s.clauses c.in-By.clause step.clause step.is

pub write_line-requires : goal.write_line-requires
write_line-requires c k p e =
    let s = c.args.closure.now in
    let count = c.requires.closure.sound.count in
    let w : slice_get s.ways.items c.args.rank ≡ Some (By c.in-By.clause) = slice_get_read s.ways.items (length s.ways.items) c.args.rank c.index.result.now refl (omega (arith, count)) c.index.ensures ∙ ap Some c.in-By.is in
    let new : ¬ IsListed c.args.items.now c.at-n.result = from-none c.place.result (¬ IsListed c.args.items.now c.at-n.result) c.place.ensures.none (sym c.if-is_some.ensures) in
    c.requires.premises c.at-n.result c.in-By.clause c.at.result.now c.at-n.ensures new w c.at.ensures k p e

pub returns-in-Given-clause-ok : goal.returns-in-Given-clause-ok
returns-in-Given-clause-ok c =
    let s = c.args.closure.now in
    let count = c.requires.closure.sound.count in
    let w : slice_get s.ways.items c.args.rank ≡ Some Given = slice_get_read s.ways.items (length s.ways.items) c.args.rank c.index.result.now refl (omega (arith, count)) c.index.ensures ∙ ap Some c.in-Given.is in
    there c.at-n.result c.at-n.ensures (c.requires.given c.at-n.result (record { rank = c.args.rank; is = c.at-n.ensures; way = w })) refl refl

pub returns-in-By-clause-ok : goal.returns-in-By-clause-ok
returns-in-By-clause-ok c =
    let s = c.args.closure.now in
    let count = c.requires.closure.sound.count in
    let w : slice_get s.ways.items c.args.rank ≡ Some (By c.in-By.clause) = slice_get_read s.ways.items (length s.ways.items) c.args.rank c.index.result.now refl (omega (arith, count)) c.index.ensures ∙ ap Some c.in-By.is in
    let new : ¬ IsListed c.args.items.now c.at-n.result = from-none c.place.result (¬ IsListed c.args.items.now c.at-n.result) c.place.ensures.none (sym c.if-is_some.ensures) in
    let step = c.requires.closure.sound.steps c.args.rank c.in-By.clause w in
    let k = c.at.result.now in
    let a = step.is in
    let b = c.at.ensures in
    let same : step.clause ≡ k = cc in
    let gives = step.gives in
    let known : slice_get s.known c.args.rank ≡ Some k.gives = step.gives ∙ ap (λ (x : Clause). Some x.gives) same in
    let here = c.at-n.ensures in
    let number : c.at-n.result ≡ k.gives = cc in
    let fresh : ¬ IsListed c.args.items.now k.gives = subst (λ (i : ℕ). ¬ IsListed c.args.items.now i) number new in
    let both = λ (e : c.write_line.new.items ≡ c.args.items.now ++ k.gives ∷ []) (l : (x : Line) × (c.write_line.new.lines ≡ c.args.lines.now ++ x ∷ []) × IsLineOver c.args.items.now k.line x).
    let done : Writes s c.args.rank c.args.items.now c.args.lines.now c.write_line.new.items c.write_line.new.lines =
    one_line c.in-By.clause k l.0 known c.at.ensures fresh l.2 e l.1 in done in
    ok-both c.write_line.result both c.write_line.ensures.items c.write_line.ensures.lines
