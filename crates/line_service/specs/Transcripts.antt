-- Bytes in memory as a peer.
use Rattle.std.specs.Prelude.{◌≡◌, ℕ, List, ◌++◌}
use Rattle.line_service.specs.declared.transcript.Transcript.{Transcript}

-- the bytes that are read are the first of the input, and those that are written come after the output
abbrev pub transcript_passes : {A : Type 0} → Transcript A → List ℕ → List ℕ → Transcript A → Type 0
transcript_passes before read written after =
    (before.input.now ≡ read ++ after.input.now) × (after.output.items ≡ before.output.items ++ written)
