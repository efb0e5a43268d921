-- The line of an offset, by that of one that stands before it.
use Rattle.std.proofs.Common.{◌≡◌, ◌≤◌, ◌<◌, ◌+◌, ◌-◌, ℕ, List, ◌++◌, length, take, drop, ap, ◌∙◌, ⊎_elim, arith}
use Rattle.std.proofs.Math.Seq.{take-add}
use Rattle.std.proofs.lemmas.Bool.{cases_lt}
use Rattle.std.proofs.lemmas.Grind.{common_steps}
use Rattle.sap_text.specs.Tokens.{line_feeds}
use Rattle.sap_stretches.specs.Lines.{IsLineOf}
use Rattle.sap_stretches.specs.Positions.{IsFeed, LineBegins, LineEnds}
use Rattle.sap_stretches.specs.declared.line.Line.{Line}

feeds_joined : (p q : List ℕ) → line_feeds (p ++ q) ≡ line_feeds p + line_feeds q
feeds_joined p q = grind (arith, common_steps)

-- the line feeds up to an offset are those up to one before it and those between the two
counted : (z : List ℕ) (a b : ℕ) → a ≤ b → line_feeds (take b z) ≡ line_feeds (take a z) + line_feeds (take (b - a) (drop a z))
counted z a b le =
    let sum : b ≡ a + (b - a) = omega (arith, le) in
    let cut : take b z ≡ take a z ++ take (b - a) (drop a z) = ap (λ n. take n z) sum ∙ take-add a (b - a) z in
    ap line_feeds cut ∙ feeds_joined (take a z) (take (b - a) (drop a z))

module _ (z : List ℕ) (known : Line) (at feeds : ℕ) (is : IsLineOf z known) (behind : known.at ≤ at) (inside : at ≤ length z)
    (between : feeds ≡ line_feeds (take (at - known.at) (drop known.at z))) where
  number : known.number + feeds ≡ line_feeds (take at z) + 1
  number =
      let before = is.number in
      let all = counted z known.at at behind in
      omega (arith, before, all, between)

  -- where the line is the same
  pub same_line : at ≤ known.to → IsLineOf z (record { at = at; number = known.number + feeds; from = known.from; to = known.to })
  same_line in_it = record {
    inside = inside;
    begins = record {
      order = let first = is.begins.order in omega (arith, first, behind);
      begins = is.begins.begins;
      no_feed = λ k le lt. ⊎_elim (λ before. is.begins.no_feed k le before) (λ later. is.ends.no_feed k later (omega (arith, lt, in_it))) (cases_lt k known.at);
    };
    ends = record {
      order = in_it;
      inside = is.ends.inside;
      ends = is.ends.ends;
      no_feed = λ k le lt. is.ends.no_feed k (omega (arith, le, behind)) lt;
    };
    number = number;
  }

  -- where it is another
  pub other_line : (from to : ℕ) → LineBegins z at from → LineEnds z at to → IsLineOf z (record { at = at; number = known.number + feeds; from = from; to = to })
  other_line from to begins ends = record { inside = inside; begins = begins; ends = ends; number = number }
