use Rattle.t1_picture.proofs.XmlCharacters.{legible_texts_are_fit}
use Rattle.t1_picture.proofs.XmlTexts.{ampersands_begin_entities, texts_have_no_markup}
use Rattle.t1_picture.proofs.laws.texts_stay_in_their_elements.Goals as goal

pub returns-clause-markup : goal.returns-clause-markup
returns-clause-markup c = texts_have_no_markup

pub returns-clause-entities : goal.returns-clause-entities
returns-clause-entities c = ampersands_begin_entities

pub returns-clause-fit : goal.returns-clause-fit
returns-clause-fit c = legible_texts_are_fit
