use Rattle.t1_seal.proofs.Deciphering.{deciphers_the_enciphered}
use Rattle.t1_seal.proofs.laws.cipher_round_trip.Goals as goal

pub returns : goal.returns
returns c = deciphers_the_enciphered
