-- What a host is handed over of a document.
use Rattle.std.proofs.Common.{◌≡◌, ℕ, List, Option, Some, refl, subst}
use Rattle.t1_forms.specs.PageValues.{PagesValue}
use Rattle.t1_pieces.specs.Documents.{IsDocumentPiece}
use Rattle.t1_char.specs.declared.edition.Edition.{Edition}
use Rattle.t1_pieces.specs.Reading.{input_in}
use Rattle.t1_pieces.specs.declared.piece.Piece.{Piece}
use Rattle.t1_pieces.specs.declared.stage.Reached.{Reached}
use Rattle.t1_pieces.specs.declared.stage.Stage.{Stage}
use Rattle.t1_pieces.specs.declared.stage.Stage.TheVariants.{Beginning, Nothing, Results}
use Rattle.t1_web.specs.Answers.{Answer, IsDocumentHandedOver}
use Rattle.t1_web.specs.Answers.IsDocumentHandedOver.{handed}
use Rattle.t1_web.specs.Numbers.{bytes_of, stage_number, stage_of, status_of}

-- A stage is that of its number.
pub stage_back : (stage : Stage) → stage_of (stage_number stage) ≡ stage
stage_back Nothing = refl
stage_back Beginning = refl
stage_back Results = refl

pub document_handed : (pages : PagesValue) (name name' : List ℕ) (edition : Option Edition) (own : Edition) (font waivers : List ℕ)
    (old old' new new' : Reached) (answer : Answer) (piece : Piece) → edition ≡ Some own → name' ≡ name → old' ≡ old → new' ≡ new
    → IsDocumentPiece name' pages (input_in own font waivers) old' new' answer.room piece
    → answer.written ≡ bytes_of piece → answer.status ≡ status_of piece → IsDocumentHandedOver pages name edition font waivers old new answer
document_handed pages name name' edition own font waivers old old' new new' answer piece there names olds news is bytes_is status_is =
    handed own there piece
    (subst (λ (n : List ℕ). IsDocumentPiece n pages (input_in own font waivers) old new answer.room piece) names
    (subst (λ (o : Reached). IsDocumentPiece name' pages (input_in own font waivers) o new answer.room piece) olds
    (subst (λ (n : Reached). IsDocumentPiece name' pages (input_in own font waivers) old' n answer.room piece) news is)))
    bytes_is status_is
