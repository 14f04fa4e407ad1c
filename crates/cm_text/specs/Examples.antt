-- Inside.
-- Texts in the relaxed spelling, and their JSON or their faults.
use Rattle.std.specs.Prelude.{◌≡◌, ◌∷◌, ◌++◌, codes, Ok, Err}
use Rattle.cm_text.specs.Json.{json_of}
use Rattle.cm_text.specs.declared.fault.TextFault.TheVariants.{BadToken, Unclosed}

-- worked examples, each of one feature or fault of the relaxed spelling
pub record SpellingExamples : Type 0 where
  pub manifest : json_of (codes "{children:[{name:'a',url:'#meta/a.cm'},],/* one */}")
      ≡ Ok (codes "{ \"children\" : [ { \"name\" : \"a\" , \"url\" : \"#meta/a.cm\" } ] }")
  pub quotes : json_of (codes "['a\"b','\\'','\\\"',\"'\\''\"]")
      ≡ Ok (codes "[ \"a\\\"b\" , \"'\" , \"\\\"\" , \"'\\''\" ]")
  pub commas : json_of (codes "[,][1,,]{,}[1,],]") ≡ Ok (codes "[ , ] [ 1 , , ] { , } [ 1 ] ]")
  pub first_comma : json_of (codes ",]") ≡ Ok (codes ", ]")
  pub keys : json_of (codes "{a-b:1,$c:-2.5e+3,1d:true}//x")
      ≡ Ok (codes "{ a-b : 1 , \"$c\" : -2.5e+3 , 1d : true }")
  pub key_in_array : json_of (codes "[a:1]") ≡ Ok (codes "[ \"a\" : 1 ]")
  pub nothing : json_of (codes " /**/ // x") ≡ Ok (codes "")
  pub carriage_return : json_of (codes "1//" ++ 13 ∷ codes "2" ++ 10 ∷ codes "3") ≡ Ok (codes "1 3")
  pub not_ascii : json_of (codes "'" ++ 195 ∷ 169 ∷ codes "'") ≡ Ok (codes "\"" ++ 195 ∷ 169 ∷ codes "\"")
  pub stray_slash : json_of (codes "{a:1}/ 'x") ≡ Err (BadToken 5)
  pub stray_character : json_of (codes "[ " ++ 195 ∷ 169 ∷ codes "]") ≡ Err (BadToken 2)
  pub open_string : json_of (codes "[1, 'x\\'") ≡ Err (Unclosed 4)
  pub open_comment : json_of (codes "1 /*/") ≡ Err (Unclosed 2)
  pub first_fault : json_of (codes "# '") ≡ Err (BadToken 0)
