use Rattle.std.proofs.Common.{inl, inr, sym}
use Rattle.sap_derive.specs.code.Listed.{IsListed}
use Rattle.sap_derive.specs.declared.grounds.Grounds.TheVariants.{Given}
use Rattle.sap_derive.proofs.Options.{from-none}
use Rattle.sap_derive.proofs.Sound.{sound-learned, learned-kept, learned-later, learned-given}
use Rattle.sap_derive.proofs.Settled.{settled-kept}
use Rattle.sap_derive.proofs.closure.Closure.give.Goals as goal

pub returns-clause-closure : goal.returns-clause-closure
returns-clause-closure c =
    let s = c.args.self.now in
    let new : ¬ IsListed s.known c.args.n = from-none c.place.result (¬ IsListed s.known c.args.n) c.place.ensures.none (sym c.if-is_some.ensures) in
    let learns = c.learn.ensures.learns in
    record {
      sound = sound-learned s.clauses s.known s.ways.items s.waiting.items s.placed s.done s.looked c.requires.sound c.learn.new.known c.learn.new.ways.items c.args.n Given new (λ i e. absurd (cc)) learns;
      settled = λ i l. settled-kept s.clauses s.clauses s.known c.learn.new.known s.waiting.items s.waiting.items s.done s.looked (λ d k e. e) c.requires.sound.done_within c.requires.sound.none_looked
          (learned-kept s.known c.learn.new.known s.ways.items c.learn.new.ways.items c.args.n Given learns) (learned-later s.known c.learn.new.known s.ways.items c.learn.new.ways.items c.args.n Given learns) (λ n k w a. a) i (c.requires.settled i l);
    }

pub returns-clause-known : goal.returns-clause-known
returns-clause-known c = learned-kept _ _ _ _ _ _ c.learn.ensures.learns

pub returns-clause-given : goal.returns-clause-given
returns-clause-given c m g =
    let s = c.args.self.now in
    elim (learned-given s.known c.learn.new.known s.ways.items c.learn.new.ways.items c.args.n Given c.requires.sound.count c.learn.ensures.learns g.rank m g.is g.way)
    [ inl x ↦ inl (record { rank = g.rank; is = x.0; way = x.1 }) | inr x ↦ inr x.0 ]

pub returns-clause-ok : goal.returns-clause-ok
returns-clause-ok c = c.learn.ensures.ok
