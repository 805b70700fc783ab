use Rattle.std.specs.Prelude.{ℕ, List, length, Some, None, Ok, Err, codes}
use Rattle.std.specs.Borrow.{Bor, MutBor}
use Rattle.axes.specs.Axes.{Axis}
use Rattle.axes.specs.Fitting.{fits_test}
use Rattle.grids.specs.Answers.{array_shape_answer, grid_shape_answer, chunk_shape_answer, chunk_origin_answer, chunk_indices_answer, chunk_element_indices_answer, subset_answer, chunks_in_answer, inbounds}
use Rattle.grids.specs.Places.{Answer, Gives}
use Rattle.notation.specs.Texts.{number_in}
use Rattle.notation.specs.Lists.{list_in}
use Rattle.script.specs.declared.name.Question.{Question}
use Rattle.script.specs.declared.name.Question.TheVariants.{Dimensionality, ArrayShape, GridShape, ChunkShape, ChunkOrigin, ChunkIndices, ChunkElementIndices, Subset, Inbounds, ChunksIn, Fits}
use Rattle.script.specs.Arguments.{none_of, one_of, two_of, with_read, number_field, numbers_field}
use Rattle.script.specs.Replies.{Reply, number, found, absent, bounds, chunks, decided, refused}

-- An answer of a grid as a reply.
abbrev pub answer_reply : {A : Type 0} → (A → Reply) → Answer A → Reply
answer_reply k (Ok (Some x)) = k x
answer_reply k (Ok None) = absent
answer_reply k (Err f) = refused f

abbrev pub dimensionality_reply : List Axis → List (List ℕ) → Reply
dimensionality_reply xs args = with_read (none_of args) (λ _. number (length xs))

-- What was answered: the reply that was found, or that there is none.
abbrev pub answered_reply : Answer (Unit {0}) → Reply → Reply
answered_reply (Ok (Some u)) x = x
answered_reply (Ok None) x = absent
answered_reply (Err f) x = refused f

-- A question without numbers: its answer goes into a place with one entry for each axis.
abbrev pub shape_reply : (ℕ → Answer (List ℕ)) → List Axis → List (List ℕ) → Reply
shape_reply answer xs args = with_read (none_of args) (λ _. answer_reply found (answer (length xs)))

-- A question about a list of numbers.
abbrev pub about_numbers : (List ℕ → Reply) → List (List ℕ) → Reply
about_numbers k args = with_read (one_of args) (λ t. with_read (list_in number_in t) k)

abbrev pub numbers_reply : (List ℕ → ℕ → Answer (List ℕ)) → List Axis → List (List ℕ) → Reply
numbers_reply answer xs = about_numbers (λ ns. answer_reply found (answer ns (length xs)))

-- What a call does that asks such a question: the place holds the answer.
abbrev pub Asks : (MutBor (List ℕ) → Answer (Unit {0}) → MutBor (List ℕ) → Type 0) → (ℕ → Answer (List ℕ)) → Type 0
Asks post answer = (before after : MutBor (List ℕ)) (r : Answer (Unit {0})) → post before r after → Gives before.now after.now r (answer (length before.now))

abbrev pub AsksAbout : (Bor (List ℕ) → MutBor (List ℕ) → Answer (Unit {0}) → MutBor (List ℕ) → Type 0) → (List ℕ → ℕ → Answer (List ℕ)) → Type 0
AsksAbout post answer = (numbers : Bor (List ℕ)) → Asks (post numbers) (answer numbers.now)

abbrev pub subset_reply : List Axis → List (List ℕ) → Reply
subset_reply xs = about_numbers (λ ns. answer_reply (λ p. bounds p.0 p.1) (subset_answer xs ns (length xs) (length xs)))

abbrev pub inbounds_reply : List Axis → List (List ℕ) → Reply
inbounds_reply xs = about_numbers (λ ns. decided (inbounds xs ns))

-- `chunks_in start=LIST shape=LIST`
abbrev pub chunks_in_reply : List Axis → List (List ℕ) → Reply
chunks_in_reply xs args =
    with_read (two_of args) (λ p.
    with_read (numbers_field (codes "start") p.0) (λ start.
    with_read (numbers_field (codes "shape") p.1) (λ shape.
    answer_reply (λ q. chunks q.0 q.1) (chunks_in_answer xs start shape (length xs) (length xs)))))

-- `fits limit=N width=N`
abbrev pub fits_reply : List Axis → List (List ℕ) → Reply
fits_reply xs args =
    with_read (two_of args) (λ p.
    with_read (number_field (codes "limit") p.0) (λ limit.
    with_read (number_field (codes "width") p.1) (λ width.
    decided (fits_test xs limit width))))

-- What a grid with these axes replies to a question.
abbrev pub question_reply : List Axis → Question → List (List ℕ) → Reply
question_reply xs Dimensionality = dimensionality_reply xs
question_reply xs ArrayShape = shape_reply (array_shape_answer xs) xs
question_reply xs GridShape = shape_reply (grid_shape_answer xs) xs
question_reply xs ChunkShape = numbers_reply (chunk_shape_answer xs) xs
question_reply xs ChunkOrigin = numbers_reply (chunk_origin_answer xs) xs
question_reply xs ChunkIndices = numbers_reply (chunk_indices_answer xs) xs
question_reply xs ChunkElementIndices = numbers_reply (chunk_element_indices_answer xs) xs
question_reply xs Subset = subset_reply xs
question_reply xs Inbounds = inbounds_reply xs
question_reply xs ChunksIn = chunks_in_reply xs
question_reply xs Fits = fits_reply xs
