mod SingleLaws
