use Rattle.std.proofs.Common.{◌≡◌, Some, inl, inr, sym, refl, subst}
use Rattle.std.specs.Prelude.{slice_get}
use Rattle.sap_derive.specs.code.Lines.{premises_of}
use Rattle.sap_derive.specs.declared.clause.Clause.{Clause}
use Rattle.sap_derive.specs.code.Listed.{IsListed, AreListed}
use Rattle.sap_derive.specs.declared.grounds.Grounds.TheVariants.{By}
use Rattle.sap_derive.proofs.Options.{from-none}
use Rattle.sap_derive.proofs.Sound.{sound-learned, learned-kept, learned-later, learned-given}
use Rattle.sap_derive.proofs.closure.Closure.use_clause.Goals as goal

pub returns-clause-sound : goal.returns-clause-sound
returns-clause-sound c =
    let s = c.args.self.now in
    let n = c.at.result.now.gives in
    let new : ¬ IsListed s.known n = from-none c.place.result (¬ IsListed s.known n) c.place.ensures.none (sym c.if-is_some.ensures) in
    sound-learned s.clauses s.known s.ways.items s.waiting.items s.placed s.done s.looked c.requires.sound c.learn.new.known c.learn.new.ways.items n (By c.args.clause) new
    (λ i e. let same : c.args.clause ≡ i = cc in subst (λ j. (k : Clause) × (slice_get s.clauses j ≡ Some k) × (k.gives ≡ n) × AreListed s.known (premises_of k.line)) same (c.at.result.now, c.at.ensures, refl, c.requires.known c.at.result.now c.at.ensures))
    c.learn.ensures.learns

pub returns-clause-advances : goal.returns-clause-advances
returns-clause-advances c =
    let s = c.args.self.now in
    let n = c.at.result.now.gives in
    let learns = c.learn.ensures.learns in
    record {
      grows = record {
        clauses = refl;
        known = learned-kept s.known c.learn.new.known s.ways.items c.learn.new.ways.items n (By c.args.clause) learns;
        given = λ m g.
            elim (learned-given s.known c.learn.new.known s.ways.items c.learn.new.ways.items n (By c.args.clause) c.requires.sound.count learns g.rank m g.is g.way)
            [ inl x ↦ record { rank = g.rank; is = x.0; way = x.1 } | inr x ↦ absurd (cc (x.1)) ];
      };
      placed = refl;
      done = refl;
      looked = refl;
      later = learned-later s.known c.learn.new.known s.ways.items c.learn.new.ways.items n (By c.args.clause) learns;
      kept = λ m k w a. a;
      only = λ m k w l a. a;
    }
