use Rattle.std.proofs.Common.{◌≡◌, ◌≤◌, ◌<◌, ◌+◌, take, drop, List, [], ◌∷◌, ◌++◌, ℕ, Ok, Err, arith, ap, sym, subst, ◌∙◌}
use Rattle.std.proofs.lemmas.Grind.{common_steps}
use Rattle.sap_text.specs.declared.token.Token.{Token}
use Rattle.sap_text.specs.declared.fault.Lex.TheVariants as fault
use Rattle.sap_text.specs.Tokens.{counted, line_feeds, IsLexed, Lexed, IsLongest, IsSkip, before, ended, failed}
use Rattle.sap_text.specs.code.Front.{all_before, AtFront, Stands}
use Rattle.sap_text.proofs.Joins.{step_skip, step_taken, step_long, push_before, fault_told, feeds_most}
use Rattle.sap_text.proofs.lexer.read_tokens.Goals as goal

further : (at n : ℕ) (z : List ℕ) → drop (at + n) z ≡ drop n (drop at z)
further at n z = grind (arith, common_steps)

pub loop-at-preserved-in-Skip : goal.loop-at-preserved-in-Skip
loop-at-preserved-in-Skip c =
    let rest = drop c.loop-at.at c.args.bytes.now in
    let given : Stands c.loop-at.at rest c.front_of.result = subst (λ (y : List ℕ). Stands c.loop-at.at y c.front_of.result) c.from_place-rest.ensures c.front_of.ensures.stands in
    let is : AtFront IsSkip rest c.in-Skip.n = rw c.in-Skip.is at given in
    let counts : c.feeds_in.result ≡ line_feeds (take c.in-Skip.n rest) = grind (arith, common_steps) in
    let few : line_feeds (take c.in-Skip.n rest) ≤ c.in-Skip.n = grind (arith, common_steps, feeds_most (take c.in-Skip.n rest)) in
    record {
      inside = grind (arith, common_steps);
      few = omega (arith, counts, few, c.loop-at.invariant.few);
      joined = λ o r. c.loop-at.invariant.joined o
          (step_skip c.args.longest c.loop-at.at c.loop-at.line c.in-Skip.n rest o is
          (subst (λ (k : ℕ). IsLexed c.args.longest (c.loop-at.at + c.in-Skip.n) (c.loop-at.line + k) (drop c.in-Skip.n rest) o) counts
          (subst (λ (y : List ℕ). IsLexed c.args.longest (c.loop-at.at + c.in-Skip.n) (c.loop-at.line + c.feeds_in.result) y o) (further c.loop-at.at c.in-Skip.n c.args.bytes.now) r)));
    }

pub returns-then-counted_bytes-longest : goal.returns-then-counted_bytes-longest
returns-then-counted_bytes-longest c =
    let rest = drop c.loop-at.at c.args.bytes.now in
    let given : Stands c.loop-at.at rest c.front_of.result = subst (λ (y : List ℕ). Stands c.loop-at.at y c.front_of.result) c.from_place-rest.ensures c.front_of.ensures.stands in
    let is : AtFront (IsLongest c.in-Taken.kind) rest c.in-Taken.n = rw c.in-Taken.is at given in
    let lt : c.args.longest < counted c.in-Taken.kind c.in-Taken.n = subst (λ (k : ℕ). c.args.longest < k) c.counted_bytes.ensures c.if-counted_bytes-longest.true in
    c.loop-at.invariant.joined (Err (fault.NameLong c.loop-at.at)) (step_long c.args.longest c.loop-at.at c.loop-at.line c.in-Taken.n rest c.in-Taken.kind is lt)

pub loop-at-preserved : goal.loop-at-preserved
loop-at-preserved c =
    let rest = drop c.loop-at.at c.args.bytes.now in
    let token : Token = record { kind = c.in-Taken.kind; from = c.loop-at.at; to = c.loop-at.at + c.in-Taken.n; line = c.loop-at.line } in
    let given : Stands c.loop-at.at rest c.front_of.result = subst (λ (y : List ℕ). Stands c.loop-at.at y c.front_of.result) c.from_place-rest.ensures c.front_of.ensures.stands in
    let is : AtFront (IsLongest c.in-Taken.kind) rest c.in-Taken.n = rw c.in-Taken.is at given in
    let le : counted c.in-Taken.kind c.in-Taken.n ≤ c.args.longest = subst (λ (k : ℕ). k ≤ c.args.longest) c.counted_bytes.ensures c.if-counted_bytes-longest.false in
    let pushed : c.push.new.self.items ≡ c.loop-at.out.items ++ (token ∷ []) = grind (arith, common_steps) in
    record {
      inside = grind (arith, common_steps);
      few = omega (arith, c.loop-at.invariant.few);
      joined = λ o r.
          let all : all_before c.push.new.self.items o ≡ all_before c.loop-at.out.items (before token o) = ap (λ ts. all_before ts o) pushed ∙ push_before c.loop-at.out.items token o in
          subst (λ (y : Lexed). IsLexed c.args.longest 0 1 c.args.bytes.now y) (sym all)
          (c.loop-at.invariant.joined (before token o)
          (step_taken c.args.longest c.loop-at.at c.loop-at.line c.in-Taken.n rest o c.in-Taken.kind is le
          (subst (λ (y : List ℕ). IsLexed c.args.longest (c.loop-at.at + c.in-Taken.n) c.loop-at.line y o) (further c.loop-at.at c.in-Taken.n c.args.bytes.now) r)));
    }

pub returns-in-Fault : goal.returns-in-Fault
returns-in-Fault c =
    let rest = drop c.loop-at.at c.args.bytes.now in
    let is : Stands c.loop-at.at rest c.front_of.result = subst (λ (y : List ℕ). Stands c.loop-at.at y c.front_of.result) c.from_place-rest.ensures c.front_of.ensures.stands in
    let bad = rw c.in-Fault.is at is in
    fault_told c.args.longest c.loop-at.at rest c.args.bytes.now c.in-Fault.fault bad (c.loop-at.invariant.joined (Err c.in-Fault.fault) (failed bad))

pub returns : goal.returns
returns c =
    let none : drop c.loop-at.at c.args.bytes.now ≡ [] = grind (arith, common_steps) in
    let all : c.loop-at.out.items ++ [] ≡ c.loop-at.out.items = grind (arith, common_steps) in
    let e : IsLexed c.args.longest 0 1 c.args.bytes.now (Ok (c.loop-at.out.items ++ [])) =
    c.loop-at.invariant.joined (Ok []) (subst (λ (y : List ℕ). IsLexed c.args.longest c.loop-at.at c.loop-at.line y (Ok [])) (sym none) ended) in
    rw all at e
