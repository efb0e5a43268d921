use Rattle.std.proofs.Common.{inl}
use Rattle.sap_derive.proofs.Pushed.{pushed-keeps}
use Rattle.sap_derive.proofs.Settled.{settled-kept}
use Rattle.sap_derive.proofs.Sound.{sound-more_clauses}
use Rattle.sap_derive.proofs.closure.Closure.add.Goals as goal

pub returns-clause-closure : goal.returns-clause-closure
returns-clause-closure c =
    let s = c.args.self.now in
    let sound = c.requires.sound in
    let kept = pushed-keeps s.clauses c.push.new.self c.args.clause c.push.result c.push.ensures.ok c.push.ensures.err in
    record {
      sound = sound-more_clauses s.clauses s.known s.ways.items s.waiting.items s.placed s.done s.looked sound c.push.new.self kept.items kept.count;
      settled = λ i l. settled-kept s.clauses c.push.new.self s.known s.known s.waiting.items s.waiting.items s.done s.looked kept.items sound.done_within sound.none_looked
          (λ k n e. e) (λ k n e. inl e) (λ n k w a. a) i (c.requires.settled i l);
    }
