-- Declarations' texts, computed from the definition.
use Rattle.std.proofs.Common.{◌≡◌, ℕ, List, [], codes, Ok, Err, refl}
use Rattle.cm_decl.specs.declared.decl.Decl.{Decl}
use Rattle.cm_read.specs.Reading.{ReadResult}
use Rattle.cm_read.specs.Manifest.{decl_of_text, decl_of_json}
use Rattle.cm_write.specs.Writing.{decl_text}
use Rattle.cm_read.proofs.lemmas.examples.OnLiterals.{read_on_literals}

-- The text that is written for the declaration that was read, or none where reading failed.
abbrev text_from : ReadResult Decl → List ℕ
text_from (Ok d) = decl_text d
text_from (Err e) = []

-- The text of a declaration with a row of most sections has them in order, with all defaults.
pub written_row : text_from (decl_of_text (codes "{program:{runner:'elf'},children:[{name:'a',url:'#a'}],collections:[{name:'c',durability:'single_run'}],capabilities:[{directory:'d',path:'/d',rights:['r*']}],use:[{protocol:'p'}],offer:[{protocol:'p',from:'#a',to:['#c']}],expose:[{directory:'d',from:'self',as:'e',subdir:'x'}]}")) ≡ codes "{\"capabilities\":[{\"directory\":\"d\",\"path\":\"/d\",\"rights\":[\"connect\",\"enumerate\",\"get_attributes\",\"read_bytes\",\"traverse\"]}],\"children\":[{\"name\":\"a\",\"startup\":\"lazy\",\"url\":\"#a\"}],\"collections\":[{\"allowed_offers\":\"static_only\",\"durability\":\"single_run\",\"name\":\"c\"}],\"expose\":[{\"as\":\"e\",\"availability\":\"required\",\"directory\":\"d\",\"from\":\"self\",\"subdir\":\"x\"}],\"offer\":[{\"as\":\"p\",\"availability\":\"required\",\"dependency\":\"strong\",\"from\":\"#a\",\"protocol\":\"p\",\"to\":\"#c\"}],\"program\":{\"runner\":\"elf\"},\"use\":[{\"availability\":\"required\",\"dependency\":\"strong\",\"from\":\"parent\",\"path\":\"/svc/p\",\"protocol\":\"p\"}]}"
unfolding read_on_literals
written_row = refl

-- the text of what is read from a text is that text
pub again_row : text_from (decl_of_json (codes "{\"capabilities\":[{\"directory\":\"d\",\"path\":\"/d\",\"rights\":[\"connect\",\"enumerate\",\"get_attributes\",\"read_bytes\",\"traverse\"]}],\"children\":[{\"name\":\"a\",\"startup\":\"lazy\",\"url\":\"#a\"}],\"collections\":[{\"allowed_offers\":\"static_only\",\"durability\":\"single_run\",\"name\":\"c\"}],\"expose\":[{\"as\":\"e\",\"availability\":\"required\",\"directory\":\"d\",\"from\":\"self\",\"subdir\":\"x\"}],\"offer\":[{\"as\":\"p\",\"availability\":\"required\",\"dependency\":\"strong\",\"from\":\"#a\",\"protocol\":\"p\",\"to\":\"#c\"}],\"program\":{\"runner\":\"elf\"},\"use\":[{\"availability\":\"required\",\"dependency\":\"strong\",\"from\":\"parent\",\"path\":\"/svc/p\",\"protocol\":\"p\"}]}")) ≡ codes "{\"capabilities\":[{\"directory\":\"d\",\"path\":\"/d\",\"rights\":[\"connect\",\"enumerate\",\"get_attributes\",\"read_bytes\",\"traverse\"]}],\"children\":[{\"name\":\"a\",\"startup\":\"lazy\",\"url\":\"#a\"}],\"collections\":[{\"allowed_offers\":\"static_only\",\"durability\":\"single_run\",\"name\":\"c\"}],\"expose\":[{\"as\":\"e\",\"availability\":\"required\",\"directory\":\"d\",\"from\":\"self\",\"subdir\":\"x\"}],\"offer\":[{\"as\":\"p\",\"availability\":\"required\",\"dependency\":\"strong\",\"from\":\"#a\",\"protocol\":\"p\",\"to\":\"#c\"}],\"program\":{\"runner\":\"elf\"},\"use\":[{\"availability\":\"required\",\"dependency\":\"strong\",\"from\":\"parent\",\"path\":\"/svc/p\",\"protocol\":\"p\"}]}"
unfolding read_on_literals
again_row = refl
