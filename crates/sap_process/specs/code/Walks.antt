-- A walk over the places of a process that looks for the flaw that counts, as the code makes it.
use Rattle.std.specs.Prelude.{◌≡◌, ℕ, suc, Bool, true, false, ◌||◌, List, [], ◌∷◌, length, take, Option, Some, None, option_map, slice_get, nat_lt, if◌then◌else◌}
use Rattle.sap_terms.specs.Signature.{Sig}
use Rattle.sap_process.specs.Flaws.{rank, IsWellFormed, IsFirstFlaw}
use Rattle.sap_process.specs.Heads.{stored_facts, shown_facts}
use Rattle.sap_process.specs.Proc.{Proc}
use Rattle.sap_process.specs.Sites.{Site}
use Rattle.sap_process.specs.code.Tests.{noted_all, has_clash, lacking}
use Rattle.sap_process.specs.declared.flaw.Flaw.{Flaw}
use Rattle.sap_process.specs.declared.found.Found.{Found}
use Rattle.sap_process.specs.declared.met.Seen.{Seen}

-- the facts at the head are noted
abbrev pub seen_at : Seen → Proc → Seen
seen_at m p = record { stored = noted_all true m.stored (stored_facts p); shown = noted_all false m.shown (shown_facts p) }

-- one of them clashes with an earlier one
abbrev pub clashes : Seen → Proc → Bool
clashes m p = has_clash true m.stored (stored_facts p) || has_clash false m.shown (shown_facts p)

-- so many of the flaws that were looked for count before the one found, which stands at the path, if there is one
abbrev pub settled : Found → ℕ → List ℕ → Found
settled f k path = record {
  seen = f.seen;
  sought = take k f.sought;
  path = if nat_lt k (length f.sought) then path else f.path;
}

-- how many of the flaws that are looked for stand before the first that the place has
abbrev pub lacked : Sig → Found → Site → ℕ
lacked g f s = lacking g (clashes f.seen s.body) s.above.scope s.above.locks s.body f.sought

-- what is found once the place is met too
abbrev pub found_at : Sig → Found → Site → Found
found_at g f s = settled (record f { seen = seen_at f.seen s.body }) (lacked g f s) s.path

-- and once these are, one after another
abbrev pub found_after : Sig → Found → List Site → Found
found_after g f [] = f
found_after g f (s ∷ ss) = found_after g (found_at g f s) ss

-- before any place is met, each of these flaws is looked for
abbrev pub unmet : List Flaw → Found
unmet ws = record { seen = record { stored = []; shown = [] }; sought = ws; path = [] }

-- the first of these flaws that isn't looked for any more, with its path
abbrev pub answer : List Flaw → Found → Option (Flaw × List ℕ)
answer ws f = option_map (λ (w : Flaw). (w, f.path)) (slice_get ws (length f.sought))

-- the first of these flaws that a place has, with the path of the first place that has it
abbrev pub first_flaw : Sig → List Flaw → List Site → Option (Flaw × List ℕ)
first_flaw g ws ss = answer ws (found_after g (unmet ws) ss)

-- these are the flaws from this rank on, in the order in which they count
abbrev pub AreRanked : ℕ → List Flaw → Type 0
AreRanked n [] = n ≡ 10
AreRanked n (w ∷ ws) = (rank w ≡ n) × AreRanked (suc n) ws

-- the flaw that counts, with the path of its first place; or there is none
abbrev pub IsCounted : Sig → Proc → Option (Flaw × List ℕ) → Type 0
IsCounted g p None = IsWellFormed g p
IsCounted g p (Some found) = IsFirstFlaw g p found.0 found.1
