-- What a system is asked of files and folders, and what it answers.
use Rattle.std.specs.Prelude.{ℕ, Bool, List, Option, Result}
use Rattle.std.specs.declared.alloc.AllocError.{AllocError}
use Rattle.t1_names.specs.declared.causes.Cause.{Cause}
use Rattle.t1_names.specs.declared.folders.Listing.{Listing}

-- Each question, by a name, with its answer. The system is known before and after it, so that each question counts.
pub record Questions (F : Type 0) : Type 1 where
  -- Whether the name leads to a folder.
  pub Leads : F → F → List ℕ → Bool → Type 0
  -- What is in the folder, unless memory runs out.
  pub Lists : F → F → List ℕ → Result Listing AllocError → Type 0
  -- The text of the regular file, or why it can't be read. None where there is no such file.
  pub ReadsText : F → F → List ℕ → Option (Result (List ℕ) Cause) → Type 0
  -- The text of the list, or why it can't be read.
  pub ReadsList : F → F → List ℕ → Result (List ℕ) Cause → Type 0
