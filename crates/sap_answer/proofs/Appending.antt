-- What was put, in parts.
use Rattle.std.proofs.Common.{◌≡◌, ◌≢◌, ◌≤◌, ℕ, List, [], take, Option, inl, inr, ◌⊎◌, refl}
use Rattle.std.proofs.KnownBytes.{Appends-nil}
use Rattle.std.specs.Io.KnownBytes.{Appends}
use Rattle.sap_outside.specs.Outside.{Rose, RoseTwice, AppendsSome, more}
use Rattle.sap_answer.proofs.Rises.{rose_later, rose_twice, rose_before}
use Rattle.sap_answer.specs.Answer.{IsLast, complete, cut, usage_text, read_fault_text, write_fault_text, memory_text}

-- nothing was put
pub nothing_put : (told : Option (List ℕ)) (asked : Option ℕ) → Appends told told [] × (asked ≡ more 0 asked)
nothing_put told asked = (Appends-nil told, refl)

-- a word that was put is there: whole, or a first part, where its put was cut short
pub word_whole : (o n : Option (List ℕ)) (word : List ℕ) (Cut : Type 0) → Appends o n word → ((last : List ℕ) × Appends o n last × IsLast Cut word last)
word_whole o n word Cut h = (word, h, complete)

pub word_cut : (o n : Option (List ℕ)) (word : List ℕ) (Cut : Type 0) → AppendsSome o n word → Cut → ((last : List ℕ) × Appends o n last × IsLast Cut word last)
word_cut o n word Cut some why = (take some.0 word, some.1, cut some.0 why)

-- what there is of a word, where its put was cut short for another reason
pub last_of : {A B : Type 0} (word last : List ℕ) → (A → B) → IsLast A word last → IsLast B word last
last_of word _ f complete = complete
last_of word _ f (cut n a) = cut n (f a)

-- what two counts show where two puts were cut short
abbrev Twice : ℕ → ℕ → ℕ → ℕ → Type 0
Twice faults faults_after wants wants_after = RoseTwice faults faults_after ⊎ (Rose faults faults_after × Rose wants wants_after) ⊎ RoseTwice wants wants_after

-- the counts of faults and of wants of memory before a put, between it and a second one that was cut short, and behind that
module _ (faults then_faults last_faults wants then_wants last_wants : ℕ) where
  -- the first put failed
  pub cut_after_fault : Rose faults then_faults → then_faults ≤ last_faults → wants ≤ then_wants
      → Rose then_faults last_faults ⊎ Rose then_wants last_wants → Twice faults last_faults wants last_wants
  cut_after_fault failed later below (inl again) = inl (rose_twice faults then_faults last_faults failed again)
  cut_after_fault failed later below (inr wanted) =
      inr (inl (rose_later faults then_faults last_faults failed later, rose_before wants then_wants last_wants below wanted))

  -- it found no memory
  pub cut_after_want : Rose wants then_wants → then_wants ≤ last_wants → faults ≤ then_faults
      → Rose then_faults last_faults ⊎ Rose then_wants last_wants → Twice faults last_faults wants last_wants
  cut_after_want wanted later below (inl failed) =
      inr (inl (rose_before faults then_faults last_faults below failed, rose_later wants then_wants last_wants wanted later))
  cut_after_want wanted later below (inr again) = inr (inr (rose_twice wants then_wants last_wants wanted again))

-- no text of the program is empty
pub write_fault_is : write_fault_text ≢ []
write_fault_is e = cc

pub memory_is : memory_text ≢ []
memory_is e = cc

pub usage_is : usage_text ≢ []
usage_is e = cc

pub read_fault_is : read_fault_text ≢ []
read_fault_is e = cc
