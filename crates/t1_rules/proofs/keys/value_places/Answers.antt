use Rattle.std.proofs.Common.{ap, sym, ◌∙◌}
use Rattle.t1_rules.specs.Keys.{key_number, places_of}
use Rattle.t1_rules.proofs.keys.value_places.Goals as goal

pub returns-in-LenIv : goal.returns-in-LenIv
returns-in-LenIv c = λ font. c.latest_places.ensures font ∙ sym (ap (λ k. places_of c.args.edition font (key_number k)) c.in-LenIv.is)

pub returns-in-FontMatrix : goal.returns-in-FontMatrix
returns-in-FontMatrix c = λ font. c.later_places.ensures font ∙ sym (ap (λ k. places_of c.args.edition font (key_number k)) c.in-FontMatrix.is)

pub returns-in-FontBBox : goal.returns-in-FontBBox
returns-in-FontBBox c = λ font. c.later_places-in-FontBBox.ensures font ∙ sym (ap (λ k. places_of c.args.edition font (key_number k)) c.in-FontBBox.is)

pub returns-in-Xuid : goal.returns-in-Xuid
returns-in-Xuid c = λ font. c.later_places-in-Xuid.ensures font ∙ sym (ap (λ k. places_of c.args.edition font (key_number k)) c.in-Xuid.is)

pub returns-in-LanguageGroup : goal.returns-in-LanguageGroup
returns-in-LanguageGroup c = λ font. c.later_places-in-LanguageGroup.ensures font ∙ sym (ap (λ k. places_of c.args.edition font (key_number k)) c.in-LanguageGroup.is)
