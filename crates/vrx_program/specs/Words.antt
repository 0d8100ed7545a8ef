-- The words of a call of the program, and what each gives.
use Rattle.std.specs.Prelude.{◌≡◌, ℕ, List, [], ◌∷◌, codes}
use Rattle.vrx_program.specs.Outcome.{Outcome}
use Rattle.vrx_program.specs.Replay.{replay_outcome}
use Rattle.vrx_program.specs.Inspect.{inspection_outcome}
use Rattle.vrx_program.specs.declared.word.Word.{Word}
use Rattle.vrx_program.specs.declared.word.Word.TheVariants.{Replay, Inspect}

abbrev pub word_text : Word → List ℕ
word_text Replay = codes "replay"
word_text Inspect = codes "inspect"

-- the words are only this one
abbrev pub IsWord : Word → List (List ℕ) → Type 0
IsWord word words = words ≡ word_text word ∷ []

-- what a run with this word gives of a capture
abbrev pub gives : Word → List ℕ → Outcome
gives Replay capture = replay_outcome capture
gives Inspect capture = inspection_outcome capture
