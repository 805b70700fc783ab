use Rattle.std.specs.Prelude.{ℕ, cond, List, [], ◌∷◌, Some, None, codes, Option}
use Rattle.std.specs.Str.{bytes_eq}
use Rattle.script.specs.declared.name.Command.{Command}
use Rattle.script.specs.declared.name.Command.TheVariants.{Lay, Compress, Grid, Ask}
use Rattle.script.specs.declared.name.Question.TheVariants.{Dimensionality, ArrayShape, GridShape, ChunkShape, ChunkOrigin, ChunkIndices, ChunkElementIndices, Subset, Inbounds, ChunksIn, Fits}

-- The commands and their names.
abbrev pub names : List (List ℕ × Command)
names =
    (codes "lay", Lay)
    ∷ (codes "compress", Compress)
    ∷ (codes "grid", Grid)
    ∷ (codes "dimensionality", Ask Dimensionality)
    ∷ (codes "array_shape", Ask ArrayShape)
    ∷ (codes "grid_shape", Ask GridShape)
    ∷ (codes "chunk_shape", Ask ChunkShape)
    ∷ (codes "chunk_origin", Ask ChunkOrigin)
    ∷ (codes "subset", Ask Subset)
    ∷ (codes "chunk_indices", Ask ChunkIndices)
    ∷ (codes "chunk_element_indices", Ask ChunkElementIndices)
    ∷ (codes "inbounds", Ask Inbounds)
    ∷ (codes "chunks_in", Ask ChunksIn)
    ∷ (codes "fits", Ask Fits)
    ∷ []

abbrev pub look_up : List ℕ → List (List ℕ × Command) → Option Command
look_up name [] = None
look_up name (p ∷ ps) = cond (bytes_eq name p.0) (Some p.1) (look_up name ps)

-- The command of a name.
abbrev pub command_named : List ℕ → Option Command
command_named name = look_up name names
